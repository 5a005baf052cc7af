use Rattle.std.proofs.Common.{sym, ◌∙◌}
use Rattle.json_trees.proofs.Values.{any_now}
use Rattle.json_trees.proofs.looking.is_among.Goals as goal

pub returns : goal.returns
returns c = c.is_one_of.ensures ∙ sym (any_now c.args.text.now c.args.words.now)
