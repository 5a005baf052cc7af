use Rattle.json_trees.proofs.Values.{listed-items_of}
use Rattle.reading_back.proofs.ShareTexts.{listed_members}
use Rattle.reading_back.proofs.share_lists_are_arrays.Goals as goal

pub returns : goal.returns
returns c = λ k b x. (listed_members k b x.den x.shares, listed-items_of _)
