use Rattle.real_shares.proofs.RealNumbers.{are_ordered}
use Rattle.law_real_worths.proofs.EquivalentGames.{equivalent}
use Rattle.law_real_worths.proofs.equivalent_games_agree.Goals as goal

pub returns : goal.returns
returns c = λ N to back b family g y R change is. equivalent N (are_ordered N R) to back change b g family y is
