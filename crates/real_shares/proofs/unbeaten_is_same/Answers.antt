use Rattle.real_shares.proofs.OneNucleolus.{unbeaten_is_same}
use Rattle.real_shares.proofs.unbeaten_is_same.Goals as goal

pub returns : goal.returns
returns c = λ N family measure g x y hx hy unbeaten. unbeaten_is_same N family measure g x y hx hy unbeaten
