-- Shares that are the multipliers of the players' rows.
use Rattle.std.specs.Prelude.{◌≡◌, ℕ, ◌<◌, List, length, ℤ}
use Rattle.definitions.specs.Games.{Allocation, share}
use Rattle.separation.specs.Values.{multiplier_at}

-- the shares of n players are the multipliers of their rows, over the same denominator
pub record IsReadFrom (n : ℕ) (m : List ℤ) (den : ℤ) (x : Allocation) : Type 0 where
  pub players : length x.shares ≡ n
  pub shares : (i : ℕ) → i < n → share x i ≡ multiplier_at m i
  pub common : x.den ≡ den
