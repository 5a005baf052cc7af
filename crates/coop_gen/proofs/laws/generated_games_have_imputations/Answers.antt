use Rattle.coop_gen.proofs.Imputations.{generated_imputations}
use Rattle.coop_gen.proofs.laws.generated_games_have_imputations.Goals as goal

pub returns : goal.returns
returns c = generated_imputations
