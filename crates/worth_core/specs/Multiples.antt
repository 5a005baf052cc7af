-- Common multiples.
use Rattle.std.specs.Prelude.{ℕ, ◌<◌}
use Prim.Native.Nat.{◌∣◌}

-- the least common multiple of a and b
pub record IsLeastMultiple (a b m : ℕ) : Type 0 where
  pub positive : 0 < m
  pub left : a ∣ m
  pub right : b ∣ m
  pub least : (n : ℕ) → a ∣ n → b ∣ n → m ∣ n
