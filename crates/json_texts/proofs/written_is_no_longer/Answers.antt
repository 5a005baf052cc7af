use Rattle.json_texts.proofs.Lighter.{no_longer}
use Rattle.json_texts.proofs.written_is_no_longer.Goals as goal

pub returns : goal.returns
returns c = no_longer
