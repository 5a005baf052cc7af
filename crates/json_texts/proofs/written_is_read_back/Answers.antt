use Rattle.json_texts.proofs.Back.{read_back}
use Rattle.json_texts.proofs.written_is_read_back.Goals as goal

pub returns : goal.returns
returns c = read_back
