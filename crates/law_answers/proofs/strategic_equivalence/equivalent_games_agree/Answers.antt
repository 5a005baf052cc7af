use Rattle.law_answers.proofs.EquivalentGamesAgree.{equivalent}
use Rattle.law_answers.proofs.strategic_equivalence.equivalent_games_agree.Goals as goal

pub returns : goal.returns
returns c = equivalent
