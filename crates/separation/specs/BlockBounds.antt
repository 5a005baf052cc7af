-- What a search passes over: the greatest worth of each 256 coalitions, and the least sum of each 64.
--
--   IsBlockBound g k z        the greatest of 0 and the worths of the 256 coalitions from 256 k on
--   AreBlockBounds g zs       so for each number of a list
--   IsLeast low q z     the least of the 64 numbers of a table from 64 q on
--   AreLeast low zs     so for four numbers of a list
use Rattle.std.specs.Prelude.{ℕ, ◌+◌, ◌*◌, ◌^◌, ◌<◌, ◌≤◌, List, ℤ, pos, ◌≤ℤ◌}
use Rattle.std.specs.Prelude.{slice_index_or}
use Rattle.definitions.specs.Games.{Game}

-- each of the 256 coalitions from 256 k on is worth at most z
abbrev pub AreAtMost : Game → ℕ → ℤ → Type 0
AreAtMost g k z = (s : ℕ) → 256 * k ≤ s → s < 256 * k + 256 → s < 2 ^ g.players → g.worth s ≤ℤ z

-- z is attained: what is at least 0 and each of these worths is at least z
pub record IsBlockBound (g : Game) (k : ℕ) (z : ℤ) : Type 0 where
  pub positive : pos 0 ≤ℤ z
  pub greatest : AreAtMost g k z
  pub attained : (y : ℤ) → pos 0 ≤ℤ y → AreAtMost g k y → z ≤ℤ y

abbrev pub AreBlockBounds : Game → List ℤ → Type 0
AreBlockBounds g block_bounds = (k : ℕ) → k < 256 → IsBlockBound g k (slice_index_or block_bounds k (pos 0))

-- each of the 64 numbers from 64 q on is at least z
abbrev pub AreAtLeast : List ℤ → ℕ → ℤ → Type 0
AreAtLeast low q z = (k : ℕ) → 64 * q ≤ k → k < 64 * q + 64 → z ≤ℤ slice_index_or low k (pos 0)

-- z is attained: what is at most each of these numbers is at most z
pub record IsLeast (low : List ℤ) (q : ℕ) (z : ℤ) : Type 0 where
  pub least : AreAtLeast low q z
  pub attained : (y : ℤ) → AreAtLeast low q y → y ≤ℤ z

abbrev pub AreLeast : List ℤ → List ℤ → Type 0
AreLeast low zs = (q : ℕ) → q < 4 → IsLeast low q (slice_index_or zs q (pos 0))
