use Rattle.coop_gen.proofs.Classes.{generated_players, generated_of_class}
use Rattle.coop_gen.proofs.laws.generated_games_are_of_their_class.Goals as goal

pub returns : goal.returns
returns c = λ kind n seed h. (generated_players kind n seed h, generated_of_class kind n seed h)
