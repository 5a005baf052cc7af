-- The numbers of generated games, as lists of draws.
--
--   is_single s            the coalition s has one member
--   draws_before s         the draws for the coalitions in front of s, in mask order from 1
--   table_number           0 for one player alone, and else the next long draw
--   table_numbers seed n   the number of each coalition
--   long_draws seed n      the first n long draws
--   rows_of                rows and columns of numbers by their places
--   links_before n i       the pairs of points whose lesser one is below i, of n + 1 points
--   link_place n i j       the pairs of points in front of i and j, where i is the lesser one
--   link, pair_value       the numbers of a matrix from a list of numbers, by pairs of points or row by row
use Rattle.std.specs.Prelude.{ℕ, zero, suc, ◌+◌, ◌-◌, ◌*◌, ◌^◌, Bool, ◌||◌, nat_eq}
use Rattle.std.specs.Prelude.{nat_lt, List, map, ℤ, pos, if◌then◌else◌}
use Rattle.std.specs.List.{range_with_len}
use Rattle.definitions.specs.Coalitions.{size}
use Rattle.drawn_games.specs.Draws.{long_draw}

-- ---- tables

abbrev pub is_single : ℕ → Bool
is_single s = nat_eq (size s) 1

-- the draws for the masks from 1 to below s
abbrev pub draws_before : ℕ → ℕ
draws_before zero = 0
draws_before (suc s) = if nat_eq s 0 || is_single s then draws_before s else suc (draws_before s)

-- nothing for one player alone, and else the next long draw
abbrev pub table_number : ℕ → ℕ → ℤ
table_number seed s = if is_single s then pos 0 else pos (long_draw seed (draws_before s))

-- the number of each mask from 1
abbrev pub table_numbers : ℕ → ℕ → List ℤ
table_numbers seed n = map (table_number seed) (range_with_len 1 (2 ^ n - 1))

-- ---- costs and claims

abbrev pub long_draws : ℕ → ℕ → List ℕ
long_draws seed n = map (long_draw seed) (range_with_len 0 n)

-- ---- matrices

abbrev pub rows_of : ℕ → ℕ → (ℕ → ℕ → ℕ) → List (List ℤ)
rows_of rows columns number =
    map (λ i. map (λ j. pos (number i j)) (range_with_len 0 columns)) (range_with_len 0 rows)

-- the pairs of n + 1 points whose lesser point is below i
abbrev pub links_before : ℕ → ℕ → ℕ
links_before n zero = 0
links_before n (suc i) = links_before n i + (n - i)

abbrev pub link_place : ℕ → ℕ → ℕ → ℕ
link_place n i j = links_before n i + (j - i - 1)

-- the number of two points, by the numbers of all pairs: the same in both directions, and 0 for a point and itself
abbrev pub link : (ℕ → ℕ) → ℕ → ℕ → ℕ → ℕ
link number n i j =
    if nat_lt i j then number (link_place n i j) else (if nat_lt j i then number (link_place n j i) else 0)

-- the numbers row by row, of so many columns
abbrev pub pair_value : (ℕ → ℕ) → ℕ → ℕ → ℕ → ℕ
pair_value number columns i j = number (i * columns + j)
