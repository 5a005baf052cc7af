use Rattle.json_texts.proofs.Back.{read_ordered}
use Rattle.json_texts.proofs.read_is_ordered.Goals as goal

pub returns : goal.returns
returns c = read_ordered
