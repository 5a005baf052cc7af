-- For the private functions of this crate.
-- The level that weights of a stage are, from the numbers of the columns: the numerators of the weights.
--
--   AreNumbers      weights on distinct columns, each positive and below 2^62
--   first_single    the number of the column of the first player alone
--   outer_pairs     the coalitions outside that have a number
--   net, kept       a number less that of the negated column, and the pair of it unless it is 0
--   earlier_pairs   the coalitions of the levels in front and their net numbers
--   level_pairs     those of one level
--   bound_pairs     the players at their bound and their net numbers
--   IsLevelOf       the level
use Rattle.std.specs.Prelude.{◌≡◌, ℕ, zero, suc, ◌+◌, ◌-◌, ◌*◌, ◌^◌, ◌<◌, nat_eq}
use Rattle.std.specs.Prelude.{nat_le, List, [], ◌∷◌, ◌++◌}
use Rattle.std.specs.Prelude.{length, map, ℤ, pos, ◌-ℤ◌, ◌≤ℤ◌, if◌then◌else◌, unsigned_abs, slice_index_or}
use Rattle.std.specs.List.{AllByRecursion, IsDistinct}
use Rattle.std.specs.Ordering.{int_eq}
use Rattle.definitions.specs.Certificates.{Level, number_at}
use Rattle.fractions.specs.Fraction.{IsRatio}
use Rattle.kohlberg.specs.Pairs.{placed}
use Rattle.separation.specs.Stage.{earlier_of}
use Rattle.simplex.specs.declared.answer.Optimal.{Optimal}

pub record AreNumbers (weights : List (ℕ × ℤ)) : Type 0 where
  pub positive : AllByRecursion (λ w. pos 1 ≤ℤ w.1) weights
  pub small : AllByRecursion (λ w. unsigned_abs w.1 < 2 ^ 62) weights
  pub distinct : IsDistinct nat_eq (map (λ w. w.0) weights)

-- the number of the column of the first player alone, behind two for all players and two for each coalition of the
-- levels
abbrev pub first_single : List Level → ℕ
first_single front = 2 + 2 * length (earlier_of 0 front)

-- the coalitions outside that have a number, where `first` is the number of the column of the empty one
abbrev pub outer_pairs : ℕ → List (ℕ × ℤ) → List (ℕ × ℤ)
outer_pairs first [] = []
outer_pairs first (w ∷ ws) =
    if nat_le first w.0 then (w.0 - first, w.1) ∷ outer_pairs first ws else outer_pairs first ws

-- the number of a column less that of the same column negated
abbrev pub net : List (ℕ × ℤ) → ℕ → ℕ → ℤ
net weights id negated = number_at weights id -ℤ number_at weights negated

-- the pair of a key and a net number, unless that is 0
abbrev pub kept : ℕ → ℤ → List (ℕ × ℤ)
kept key z = if int_eq z (pos 0) then [] else (key, z) ∷ []

-- the coalitions of the levels in front and their net numbers, where `id` is the number of the column of the first
abbrev pub earlier_pairs : List (ℕ × ℤ) → ℕ → List (ℕ × ℕ) → List (ℕ × ℤ)
earlier_pairs weights id [] = []
earlier_pairs weights id (c ∷ cs) = kept c.0 (net weights id (id + 1)) ++ earlier_pairs weights (id + 2) cs

abbrev pub level_pairs : List (ℕ × ℤ) → ℕ → List (ℕ × ℤ) → List (ℕ × ℤ)
level_pairs weights id pairs = earlier_pairs weights id (map (λ c. (c.0, 0)) pairs)

-- the first `count` of n players and their net numbers, where `first` is the number of the column of the first alone
abbrev pub bound_pairs : List (ℕ × ℤ) → ℕ → ℕ → ℕ → List (ℕ × ℤ)
bound_pairs weights first n zero = []
bound_pairs weights first n (suc i) =
    bound_pairs weights first n i ++ kept i (net weights (first + i) (first + i + n))

-- the level that optimal weights are behind the levels in front, with the last multiplier as excess
pub record IsLevelOf (n : ℕ) (front : List Level) (best : Optimal) (l : Level) : Type 0 where
  pub excess : IsRatio (record { num = l.excess_num; den = l.excess_den })
      (slice_index_or best.multipliers.num.items (n + length front) (pos 0)) best.multipliers.den
  pub coalitions : l.coalitions ≡ placed (outer_pairs (first_single front + (n + n)) best.weights.items)
  pub earlier : l.earlier ≡ placed (earlier_pairs best.weights.items 2 (earlier_of 0 front))
  pub bounds : l.bounds ≡ bound_pairs best.weights.items (first_single front) n n
  pub total : l.total ≡ net best.weights.items 1 0
