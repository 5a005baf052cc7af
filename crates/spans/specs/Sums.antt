-- Sums over coalitions of a number for each player, by two tables.
--
--   number_at              the number of player i
--   eight_sum              the sum over a coalition of the eight players from `first` on
--   IsEightSum             a number is such a sum; with numbers of size b it is at most 8 b in size
--   AreEightSums           the tables of the first eight players and of the next eight
--   two_sums low high s    the sum from the first table at the first eight players of s, and from the second at the
--                          rest
use Rattle.std.specs.Prelude.{◌≡◌, ℕ, ◌+◌, ◌*◌, ◌/◌, ◌%◌, ◌<◌, ◌≤◌, List, ℤ}
use Rattle.std.specs.Prelude.{pos, ◌+ℤ◌, slice_index_or}
use Rattle.std.specs.Prelude.{unsigned_abs}
use Rattle.definitions.specs.Coalitions.{sum_over}

abbrev pub number_at : List ℤ → ℕ → ℤ
number_at numbers i = slice_index_or numbers i (pos 0)

abbrev pub eight_sum : List ℤ → ℕ → ℕ → ℤ
eight_sum numbers first s = sum_over 8 (λ i. number_at numbers (first + i)) s

-- a number is such a sum, and at most eight times as great as the numbers are
pub record IsEightSum (numbers : List ℤ) (first s : ℕ) (z : ℤ) : Type 0 where
  pub value : z ≡ eight_sum numbers first s
  pub small : (b : ℕ) → ((i : ℕ) → unsigned_abs (number_at numbers i) ≤ b) → unsigned_abs z ≤ 8 * b

pub record AreEightSums (numbers low high : List ℤ) : Type 0 where
  pub low_is : (s : ℕ) → s < 256 → IsEightSum numbers 0 s (slice_index_or low s (pos 0))
  pub high_is : (s : ℕ) → s < 256 → IsEightSum numbers 8 s (slice_index_or high s (pos 0))

-- the sum over s from two tables
abbrev pub two_sums : List ℤ → List ℤ → ℕ → ℤ
two_sums low high s = slice_index_or low (s % 256) (pos 0) +ℤ slice_index_or high (s / 256) (pos 0)
