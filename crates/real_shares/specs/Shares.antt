-- The nucleolus, the core and the prekernel for shares that are numbers of any linearly ordered abelian group with a
-- unit above zero, in place of fractions. Each definition is its fellow of Games.antt or Prekernel.antt in
-- `definitions`.
-- Sources: Schmeidler 1969; Peleg and Sudhölter, Introduction to the Theory of Cooperative Games.
--
--   number_of y i          the share of player i
--   amount_of y s          what the members of s get together
--   excess_of g y s        the worth of s, times the unit, less what its members get
--   IsEfficientOver        the shares add to the worth of all
--   IsIndividuallyRationalOver
--                          each player gets at least what it is worth alone
--   InFamilyOver           an imputation, or a preimputation
--   measured_of            an excess by a measure
--   excess_list_of         the measured excesses of all proper coalitions
--   HaveSameShares         two lists give each player the same share
--   IsNucleolusAmong       the nucleolus among shares in numbers
--   IsSameOver             shares in fractions and in numbers are the same
--   IsWrittenAs            shares in numbers are those in fractions, one for each player
--   fraction_list, number_list
--                          the excess lists of shares in fractions and in numbers, over one denominator
--   BeatsOver              the excesses of shares in fractions from the greatest come before those of shares in numbers
--   IsNucleolusOver        shares in fractions beat every other member of the family in numbers
--   InCoreOver             efficient, and no coalition is worth more than its members get
--   IsSurplusOf            the most that a coalition with the one and without the other could do better by itself
--   InPrekernelOver        efficient, and every two players have the same surplus against each other
use Rattle.std.specs.Prelude.{◌≡◌, ◌≢◌, ℕ, ◌^◌, ◌/◌, ◌<◌, IsTrue, List, length, map}
use Rattle.std.specs.Prelude.{ℤ, pos, slice_index_or}
use Rattle.definitions.specs.Coalitions.{singleton, grand_coalition, proper_coalitions, size}
use Rattle.definitions.specs.Games.{Game, Allocation, share, measured_excess, InFamily}
use Rattle.definitions.specs.Prekernel.{holds_without}
use Rattle.definitions.specs.declared.Family.{Family}
use Rattle.definitions.specs.declared.Family.TheVariants.{Imputations, Preimputations}
use Rattle.definitions.specs.declared.Measure.{Measure}
use Rattle.definitions.specs.declared.Measure.TheVariants.{Plain, PerHead}
use Rattle.real_shares.specs.Numbers.{Numbers, AtMost, Equal, times, total_over, sorted_by, ComesBeforeBy}

-- ---- shares

abbrev pub number_of : {C : Type 0} → Numbers C → List C → ℕ → C
number_of N y i = slice_index_or y i N.zero

abbrev pub amount_of : {C : Type 0} → Numbers C → List C → ℕ → C
amount_of N y s = total_over N (length y) (number_of N y) s

-- what s could do better by itself
abbrev pub excess_of : {C : Type 0} → Numbers C → Game → List C → ℕ → C
excess_of N g y s = N.plus (times N (g.worth s) N.unit) (N.minus (amount_of N y s))

abbrev pub IsEfficientOver : {C : Type 0} → Numbers C → Game → List C → Type 0
IsEfficientOver N g y =
    Equal N (amount_of N y (grand_coalition g.players)) (times N (g.worth (grand_coalition g.players)) N.unit)

-- each player gets at least what it is worth alone
abbrev pub IsIndividuallyRationalOver : {C : Type 0} → Numbers C → Game → List C → Type 0
IsIndividuallyRationalOver N g y =
    (i : ℕ) → i < g.players → AtMost N (times N (g.worth (singleton i)) N.unit) (number_of N y i)

-- an imputation; a preimputation
abbrev pub InFamilyOver : {C : Type 0} → Numbers C → Family → Game → List C → Type 0
InFamilyOver N Imputations g y = (length y ≡ g.players) × IsEfficientOver N g y × IsIndividuallyRationalOver N g y
InFamilyOver N Preimputations g y = (length y ≡ g.players) × IsEfficientOver N g y

-- ---- the nucleolus

-- the excess e of s by the measure, at the scale of Measures.antt
abbrev pub measured_of : {C : Type 0} → Numbers C → Measure → ℕ → C → C
measured_of N Plain s e = e
measured_of N PerHead s e = times N (pos (720720 / size s)) e

-- the measured excesses over all coalitions but the empty one and that of all
abbrev pub excess_list_of : {C : Type 0} → Numbers C → Measure → Game → List C → List C
excess_list_of N measure g y =
    map (λ s. measured_of N measure s (excess_of N g y s)) (proper_coalitions g.players)

-- each player gets the same
abbrev pub HaveSameShares : {C : Type 0} → Numbers C → Game → List C → List C → Type 0
HaveSameShares N g y z = (i : ℕ) → i < g.players → Equal N (number_of N y i) (number_of N z i)

-- a member of the family whose measured excesses from the greatest come before those of every member with other
-- shares
abbrev pub IsNucleolusAmong : {C : Type 0} → Numbers C → Family → Measure → Game → List C → Type 0
IsNucleolusAmong {C} N family measure g y =
    InFamilyOver N family g y
    × ((z : List C) → InFamilyOver N family g z → ¬ HaveSameShares N g y z
    → ComesBeforeBy N (sorted_by N (excess_list_of N measure g y)) (sorted_by N (excess_list_of N measure g z)))

-- ---- the nucleolus in fractions, among shares in numbers

-- the measured excesses of shares in fractions over all coalitions but the empty one and that of all, times the
-- denominator
abbrev pub fraction_list : {C : Type 0} → Numbers C → Measure → Game → Allocation → List C
fraction_list N measure g x =
    map (λ s. times N (measured_excess measure g x s) N.unit) (proper_coalitions g.players)

-- those of shares in numbers, times q
abbrev pub number_list : {C : Type 0} → Numbers C → Measure → Game → List C → ℤ → List C
number_list N measure g y q =
    map (λ s. times N q (measured_of N measure s (excess_of N g y s))) (proper_coalitions g.players)

-- times the denominator of x, the measured excesses of x from the greatest come before those of y
abbrev pub BeatsOver : {C : Type 0} → Numbers C → Measure → Game → Allocation → List C → Type 0
BeatsOver N measure g x y =
    ComesBeforeBy N (sorted_by N (fraction_list N measure g x)) (sorted_by N (number_list N measure g y x.den))

abbrev pub IsSameOver : {C : Type 0} → Numbers C → Game → Allocation → List C → Type 0
IsSameOver N g x y =
    (i : ℕ) → i < g.players → Equal N (times N (share x i) N.unit) (times N x.den (number_of N y i))

-- a share for each player, and each the same as in fractions
abbrev pub IsWrittenAs : {C : Type 0} → Numbers C → Game → Allocation → List C → Type 0
IsWrittenAs N g x y = (length y ≡ g.players) × IsSameOver N g x y

-- a member of the family that beats every member whose shares are other numbers. No number need be divided for this
abbrev pub IsNucleolusOver : {C : Type 0} → Numbers C → Family → Measure → Game → Allocation → Type 0
IsNucleolusOver {C} N family measure g x =
    InFamily family g x
    × ((y : List C) → InFamilyOver N family g y → ¬ IsSameOver N g x y → BeatsOver N measure g x y)

-- ---- the core

abbrev pub InCoreOver : {C : Type 0} → Numbers C → Game → List C → Type 0
InCoreOver N g y =
    (length y ≡ g.players) × IsEfficientOver N g y
    × ((s : ℕ) → s < 2 ^ g.players → AtMost N (times N (g.worth s) N.unit) (amount_of N y s))

-- ---- the prekernel

-- the most that a coalition with i and without j could do better by itself
abbrev pub IsSurplusOf : {C : Type 0} → Numbers C → Game → List C → ℕ → ℕ → C → Type 0
IsSurplusOf N g y i j m =
    ((s : ℕ) × (s < 2 ^ g.players) × IsTrue (holds_without i j s) × Equal N m (excess_of N g y s))
    × ((s : ℕ) → s < 2 ^ g.players → IsTrue (holds_without i j s) → AtMost N (excess_of N g y s) m)

-- efficient, and one number is the surplus of each of two players against the other
abbrev pub InPrekernelOver : {C : Type 0} → Numbers C → Game → List C → Type 0
InPrekernelOver {C} N g y =
    (length y ≡ g.players) × IsEfficientOver N g y
    × ((i j : ℕ) → i < g.players → j < g.players → i ≢ j
    → (m : C) × IsSurplusOf N g y i j m × IsSurplusOf N g y j i m)
