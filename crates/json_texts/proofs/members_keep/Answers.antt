use Rattle.json_texts.proofs.Parts.{member_keeps}
use Rattle.json_texts.proofs.members_keep.Goals as goal

pub returns : goal.returns
returns c = member_keeps
