-- Matchings given by the column of each row.
--
--   pairs_from mate columns i k   the pairs of the k rows from i on, each with its column if that is below columns
--   AreAscending i ps             the first of each pair is at least i, and each greater than the one before
--   payoff rows u p k             what each player gets: u of a row, and p of a column
--   total_below n f               what all of n players get
use Rattle.std.specs.Prelude.{ℕ, zero, suc, ◌+◌, ◌-◌, ◌≤◌, List, [], ◌∷◌, nat_lt}
use Rattle.std.specs.Prelude.{if◌then◌else◌}

abbrev pub pairs_from : (ℕ → ℕ) → ℕ → ℕ → ℕ → List (ℕ × ℕ)
pairs_from mate columns i zero = []
pairs_from mate columns i (suc k) =
    if nat_lt (mate i) columns then (i, mate i) ∷ pairs_from mate columns (suc i) k
    else pairs_from mate columns (suc i) k

abbrev pub AreAscending : ℕ → List (ℕ × ℕ) → Type 0
AreAscending i [] = Unit {0}
AreAscending i (p ∷ ps) = (i ≤ p.0) × AreAscending (suc p.0) ps

-- what each player gets: u of a row, and p of a column, whose player stands past the rows
abbrev pub payoff : ℕ → (ℕ → ℕ) → (ℕ → ℕ) → ℕ → ℕ
payoff rows u p k = if nat_lt k rows then u k else p (k - rows)

abbrev pub total_below : ℕ → (ℕ → ℕ) → ℕ
total_below zero f = 0
total_below (suc n) f = total_below n f + f n
