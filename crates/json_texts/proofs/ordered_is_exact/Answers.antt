use Rattle.json_texts.proofs.Back.{exact_from}
use Rattle.json_texts.proofs.ordered_is_exact.Goals as goal

pub returns : goal.returns
returns c = exact_from
