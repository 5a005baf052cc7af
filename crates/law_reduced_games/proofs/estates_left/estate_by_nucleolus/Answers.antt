use Rattle.law_reduced_games.proofs.EstateByNucleolus.{estate_by_nucleolus}
use Rattle.law_reduced_games.proofs.estates_left.estate_by_nucleolus.Goals as goal

pub returns : goal.returns
returns c = estate_by_nucleolus
