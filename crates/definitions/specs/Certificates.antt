-- Certificates of the nucleolus: their form and their conditions (Kohlberg 1971, as a chain of levels).
--
--   Level                        an excess, and weights on coalitions, on coalitions of earlier levels and on players
--                                at their bound
--   is_listed, has_bound         a coalition stands in some level; a player has a weight of at least 1 in the bounds of
--                                some level
--   is_fixed, is_free            mode players: what some levels have fixed of a player
--   IsFixedVector                mode span: the vectors that the levels fix
--   InSpan                       mode span: a coalition's vector is in the rational span of the fixed vectors
--   IsOutside                    the coalition isn't fixed by the levels in front
--   IsAllFixed                   the levels fix everything
--   Ascends, IsSmall             keys ascend strictly; a weight or total of a certificate
--   LevelForm, LevelsForm        the form of a level, and of each of some levels, behind the levels in front
--   HasForm                      the form of a certificate
--   number_at                    the weights of the pairs of player i, added
--   HasExcess, HasAtMostExcess   a coalition has the excess of a level, or at most that
--   Excesses                     each coalition of the level has its excess
--   Weights                      each weight on a coalition is at least 1
--   BoundWeighs, BoundWeights    a weight on a bound is at least 1, unless a level in front gave its player such a
--                                weight; each is so
--   Balances, IsBalanced         the weights of the level add to its total at a player; at each player
--   IsTight, AreTight            a bound stands on a player at its worth alone, and only for imputations; each does
--   OutsideIsLow                 no coalition outside has more than the excess of the level
--   LevelHolds                   the conditions of one level behind the levels in front of it
--   LevelsHold                   each level meets its conditions, and all together fix everything
--   Certifies                    all conditions of a certificate of these levels for these shares
use Rattle.std.specs.Prelude.{◌≡◌, ◌≢◌, ◌⊎◌, ℕ, ◌+◌, ◌-◌, ◌^◌, ◌<◌, ◌≤◌, Bool}
use Rattle.std.specs.Prelude.{◌&&◌, ◌||◌, not}
use Rattle.std.specs.Prelude.{IsTrue, nat_eq, List, [], ◌∷◌, ◌++◌, ℤ, pos, ◌+ℤ◌, ◌*ℤ◌}
use Rattle.std.specs.Prelude.{◌≤ℤ◌}
use Rattle.std.specs.Prelude.{int_le, if◌then◌else◌, length, unsigned_abs}
use Rattle.std.specs.List.{list_any, AllByRecursion}
use Rattle.definitions.specs.Coalitions.{has_player, singleton, grand_coalition, weight_at, splits}
use Rattle.definitions.specs.Measures.{measured_den}
use Rattle.definitions.specs.Games.{Game, Allocation, share, measured_excess, InFamily}
use Rattle.definitions.specs.declared.Family.{Family}
use Rattle.definitions.specs.declared.Family.TheVariants.{Imputations}
use Rattle.definitions.specs.declared.Measure.{Measure}
use Rattle.definitions.specs.declared.Mode.{Mode}
use Rattle.definitions.specs.declared.Mode.TheVariants.{Players, Span}

-- an excess, as a fraction, and weights on coalitions, on coalitions of earlier levels, and on players at their bound
pub record Level : Type 0 where
  pub excess_num : ℤ
  pub excess_den : ℤ
  pub coalitions : List (ℕ × ℤ)
  pub earlier : List (ℕ × ℤ)
  pub bounds : List (ℕ × ℤ)
  pub total : ℤ

-- ---- what levels fix

-- s stands in the coalitions of some level
abbrev pub is_listed : List Level → ℕ → Bool
is_listed levels s = list_any (λ l. list_any (λ c. nat_eq c.0 s) l.coalitions) levels

-- player i has a weight of at least 1 in the bounds of some level
abbrev pub has_bound : List Level → ℕ → Bool
has_bound levels i = list_any (λ l. list_any (λ b. nat_eq b.0 i && int_le (pos 1) b.1) l.bounds) levels

-- mode players: i alone, all but i, or its bound fixes player i
abbrev pub is_fixed : ℕ → List Level → ℕ → Bool
is_fixed n levels i =
    is_listed levels (singleton i) || is_listed levels (grand_coalition n - singleton i) || has_bound levels i

-- mode players: nothing fixes player i
abbrev pub is_free : ℕ → List Level → ℕ → Bool
is_free n levels i = not (is_fixed n levels i)

-- mode span: the vector of s is among the fixed ones
abbrev pub IsFixedVector : ℕ → List Level → ℕ → Type 0
IsFixedVector n levels s =
    (s ≡ grand_coalition n)
    ⊎ (IsTrue (is_listed levels s) ⊎ ((i : ℕ) × (i < n) × (s ≡ singleton i) × IsTrue (has_bound levels i)))

-- the vector of s, times an integer that isn't 0, is a sum of integer multiples of vectors that the fact holds of
abbrev pub InSpan : ℕ → (ℕ → Type 0) → ℕ → Type 0
InSpan n Fixed s =
    (m : ℤ) × (m ≢ pos 0) × (ps : List (ℕ × ℤ)) × AllByRecursion (λ p. Fixed p.0) ps
    × ((i : ℕ) → i < n → weight_at ps i ≡ (if has_player s i then m else pos 0))

-- s is outside what the levels fix
abbrev pub IsOutside : Mode → ℕ → List Level → ℕ → Type 0
IsOutside Players n levels s = IsTrue (splits n (is_free n levels) s)
IsOutside Span n levels s = (0 < s) × (s < grand_coalition n) × ¬ InSpan n (IsFixedVector n levels) s

abbrev pub IsAllFixed : Mode → ℕ → List Level → Type 0
IsAllFixed Players n levels =
    (i j : ℕ) → i < n → j < n → IsTrue (is_free n levels i) → IsTrue (is_free n levels j) → i ≡ j
IsAllFixed Span n levels = (i : ℕ) → i < n → InSpan n (IsFixedVector n levels) (singleton i)

-- ---- the form

-- the keys ascend strictly, from low on
abbrev pub Ascends : ℕ → List (ℕ × ℤ) → Type 0
Ascends low [] = Unit {0}
Ascends low (p ∷ ps) = (low ≤ p.0) × Ascends (p.0 + 1) ps

-- a weight or total of a certificate
abbrev pub IsSmall : ℤ → Type 0
IsSmall z = unsigned_abs z < 2 ^ 63

-- the form of a level behind the levels in front of it
pub record LevelForm (n : ℕ) (front : List Level) (l : Level) : Type 0 where
  pub fraction : pos 1 ≤ℤ l.excess_den
  pub some : 1 ≤ length l.coalitions
  pub few : length l.coalitions ≤ 65536
  pub few_earlier : length l.earlier ≤ 65536
  pub proper : AllByRecursion (λ c. (0 < c.0) × (c.0 < grand_coalition n)) l.coalitions
  pub listed : AllByRecursion (λ c. IsTrue (is_listed front c.0)) l.earlier
  pub players : AllByRecursion (λ b. b.0 < n) l.bounds
  pub ascend : Ascends 0 l.coalitions
  pub earlier_ascend : Ascends 0 l.earlier
  pub bounds_ascend : Ascends 0 l.bounds
  pub small : AllByRecursion (λ p. IsSmall p.1) (l.coalitions ++ l.earlier ++ l.bounds)
  pub total_small : IsSmall l.total

-- each level has its form behind the levels in front of it
abbrev pub LevelsForm : ℕ → List Level → List Level → Type 0
LevelsForm n front [] = Unit {0}
LevelsForm n front (l ∷ levels) = LevelForm n front l × LevelsForm n (front ++ l ∷ []) levels

-- the form of a certificate for n players
pub record HasForm (mode : Mode) (n : ℕ) (levels : List Level) : Type 0 where
  pub players : (mode ≡ Players) ⊎ (n ≤ 16)
  pub few : length levels + 1 ≤ n
  pub each : LevelsForm n [] levels

-- ---- the conditions

abbrev pub number_at : List (ℕ × ℤ) → ℕ → ℤ
number_at [] i = pos 0
number_at (p ∷ ps) i = (if nat_eq p.0 i then p.1 else pos 0) +ℤ number_at ps i

-- s has the excess of the level, by the measure
abbrev pub HasExcess : Measure → Game → Allocation → Level → ℕ → Type 0
HasExcess measure g x l s =
    measured_excess measure g x s *ℤ l.excess_den ≡ l.excess_num *ℤ measured_den measure x.den

-- s has at most the excess of the level
abbrev pub HasAtMostExcess : Measure → Game → Allocation → Level → ℕ → Type 0
HasAtMostExcess measure g x l s =
    (measured_excess measure g x s *ℤ l.excess_den) ≤ℤ (l.excess_num *ℤ measured_den measure x.den)

abbrev pub Excesses : Measure → Game → Allocation → Level → Type 0
Excesses measure g x l = AllByRecursion (λ c. HasExcess measure g x l c.0) l.coalitions

abbrev pub Weights : Level → Type 0
Weights l = AllByRecursion (λ c. pos 1 ≤ℤ c.1) l.coalitions

-- a weight on a bound is at least 1, or a level in front gave its player such a weight
abbrev pub BoundWeighs : List Level → ℕ × ℤ → Type 0
BoundWeighs front b = (pos 1 ≤ℤ b.1) ⊎ IsTrue (has_bound front b.0)

abbrev pub BoundWeights : List Level → Level → Type 0
BoundWeights front l = AllByRecursion (BoundWeighs front) l.bounds

-- the weights of the level add to its total at player i, and at each player
abbrev pub Balances : Level → ℕ → Type 0
Balances l i = weight_at l.coalitions i +ℤ weight_at l.earlier i +ℤ number_at l.bounds i ≡ l.total

abbrev pub IsBalanced : Game → Level → Type 0
IsBalanced g l = (i : ℕ) → i < g.players → Balances l i

-- a bound stands only on a player at its worth alone, and only for imputations
abbrev pub IsTight : Family → Game → Allocation → ℕ × ℤ → Type 0
IsTight family g x b = (share x b.0 ≡ x.den *ℤ g.worth (singleton b.0)) × (family ≡ Imputations)

abbrev pub AreTight : Family → Game → Allocation → Level → Type 0
AreTight family g x l = AllByRecursion (IsTight family g x) l.bounds

abbrev pub OutsideIsLow : Mode → Measure → Game → Allocation → List Level → Level → Type 0
OutsideIsLow mode measure g x front l =
    (s : ℕ) → s < 2 ^ g.players → IsOutside mode g.players front s → HasAtMostExcess measure g x l s

-- what a level meets behind the levels in front of it
pub record LevelHolds (mode : Mode) (family : Family) (measure : Measure) (g : Game) (x : Allocation)
    (front : List Level) (l : Level) : Type 0 where
  pub excesses : Excesses measure g x l
  pub weights : Weights l
  pub bound_weights : BoundWeights front l
  pub balanced : IsBalanced g l
  pub tight : AreTight family g x l
  pub outside : OutsideIsLow mode measure g x front l

abbrev pub LevelsHold : Mode → Family → Measure → Game → Allocation → List Level → List Level → Type 0
LevelsHold mode family measure g x front [] = IsAllFixed mode g.players front
LevelsHold mode family measure g x front (l ∷ levels) =
    LevelHolds mode family measure g x front l × LevelsHold mode family measure g x (front ++ l ∷ []) levels

-- a certificate of these levels certifies the shares
abbrev pub Certifies : Mode → Family → Measure → Game → Allocation → List Level → Type 0
Certifies mode family measure g x levels = InFamily family g x × LevelsHold mode family measure g x [] levels
