-- Games whose worths are numbers of any linearly ordered abelian group, as the real numbers are, by plain excess. Each
-- definition is its fellow of Shares.antt in `real_shares`, with numbers as worths in place of whole numbers.
-- Sources: Schmeidler 1969; Peleg and Sudhölter, Introduction to the Theory of Cooperative Games.
--
--   NumberGame C              players, and a number as the worth of each coalition
--   whole_worths N g          the game of whole numbers, times the unit
--   excess_in N g y s         the worth of s less what its members get
--   IsEfficientIn             the shares add to the worth of all
--   IsIndividuallyRationalIn  each player gets at least what it is worth alone
--   InFamilyIn                an imputation, or a preimputation
--   excess_list_in            the excesses of all proper coalitions
--   HaveSameIn                two lists give each player the same
--   IsNucleolusIn             a member whose excesses from the greatest come before those of every other member
--   IsUnbeatenIn              a member that no other member comes before, as the literature puts it
--   InCoreIn                  efficient, and no coalition is worth more than its members get
--   CanHalve N                each number is twice a number, as each real number is
--   AddsNoLessIn N g i j      player i adds to each coalition without both at least what player j adds
--   AreInterchangeableIn      both add the same to each coalition without both
--   IsDummyIn N g i           player i adds its worth alone to each coalition without it
use Rattle.std.specs.Prelude.{◌≡◌, ℕ, ◌+◌, ◌^◌, ◌<◌, false, List, length, map}
use Rattle.definitions.specs.Coalitions.{has_player, singleton, grand_coalition, proper_coalitions}
use Rattle.definitions.specs.Games.{Game}
use Rattle.definitions.specs.declared.Family.{Family}
use Rattle.definitions.specs.declared.Family.TheVariants.{Imputations, Preimputations}
use Rattle.real_shares.specs.Numbers.{Numbers, AtMost, Equal, times, sorted_by, ComesBeforeBy}
use Rattle.real_shares.specs.Shares.{number_of, amount_of}

pub record NumberGame (C : Type 0) : Type 0 where
  pub players : ℕ
  pub worth : ℕ → C

abbrev pub whole_worths : {C : Type 0} → Numbers C → Game → NumberGame C
whole_worths N g = record { players = g.players; worth = λ s. times N (g.worth s) N.unit }

-- what s could do better by itself
abbrev pub excess_in : {C : Type 0} → Numbers C → NumberGame C → List C → ℕ → C
excess_in N g y s = N.plus (g.worth s) (N.minus (amount_of N y s))

abbrev pub IsEfficientIn : {C : Type 0} → Numbers C → NumberGame C → List C → Type 0
IsEfficientIn N g y = Equal N (amount_of N y (grand_coalition g.players)) (g.worth (grand_coalition g.players))

abbrev pub IsIndividuallyRationalIn : {C : Type 0} → Numbers C → NumberGame C → List C → Type 0
IsIndividuallyRationalIn N g y = (i : ℕ) → i < g.players → AtMost N (g.worth (singleton i)) (number_of N y i)

-- an imputation; a preimputation
abbrev pub InFamilyIn : {C : Type 0} → Numbers C → Family → NumberGame C → List C → Type 0
InFamilyIn N Imputations g y = (length y ≡ g.players) × IsEfficientIn N g y × IsIndividuallyRationalIn N g y
InFamilyIn N Preimputations g y = (length y ≡ g.players) × IsEfficientIn N g y

-- the excesses over all coalitions but the empty one and that of all
abbrev pub excess_list_in : {C : Type 0} → Numbers C → NumberGame C → List C → List C
excess_list_in N g y = map (λ s. excess_in N g y s) (proper_coalitions g.players)

abbrev pub HaveSameIn : {C : Type 0} → Numbers C → NumberGame C → List C → List C → Type 0
HaveSameIn N g y z = (i : ℕ) → i < g.players → Equal N (number_of N y i) (number_of N z i)

-- a member of the family whose excesses from the greatest come before those of every member with other shares
abbrev pub IsNucleolusIn : {C : Type 0} → Numbers C → Family → NumberGame C → List C → Type 0
IsNucleolusIn {C} N family g y =
    InFamilyIn N family g y
    × ((z : List C) → InFamilyIn N family g z → ¬ HaveSameIn N g y z
    → ComesBeforeBy N (sorted_by N (excess_list_in N g y)) (sorted_by N (excess_list_in N g z)))

-- a member such that no member's excesses, from the greatest, come before its own: its list is least (Schmeidler 1969)
abbrev pub IsUnbeatenIn : {C : Type 0} → Numbers C → Family → NumberGame C → List C → Type 0
IsUnbeatenIn {C} N family g y =
    InFamilyIn N family g y
    × ((z : List C) → InFamilyIn N family g z
    → ¬ ComesBeforeBy N (sorted_by N (excess_list_in N g z)) (sorted_by N (excess_list_in N g y)))

abbrev pub InCoreIn : {C : Type 0} → Numbers C → NumberGame C → List C → Type 0
InCoreIn N g y =
    (length y ≡ g.players) × IsEfficientIn N g y
    × ((s : ℕ) → s < 2 ^ g.players → AtMost N (g.worth s) (amount_of N y s))

-- ---- players

abbrev pub CanHalve : {C : Type 0} → Numbers C → Type 0
CanHalve {C} N = (c : C) → (h : C) × Equal N (N.plus h h) c

-- each coalition without i and j is worth with i at least what it is worth with j
abbrev pub AddsNoLessIn : {C : Type 0} → Numbers C → NumberGame C → ℕ → ℕ → Type 0
AddsNoLessIn N g i j =
    (s : ℕ) → s < 2 ^ g.players → has_player s i ≡ false → has_player s j ≡ false →
    AtMost N (g.worth (s + singleton j)) (g.worth (s + singleton i))

abbrev pub AreInterchangeableIn : {C : Type 0} → Numbers C → NumberGame C → ℕ → ℕ → Type 0
AreInterchangeableIn N g i j =
    (s : ℕ) → s < 2 ^ g.players → has_player s i ≡ false → has_player s j ≡ false →
    Equal N (g.worth (s + singleton i)) (g.worth (s + singleton j))

abbrev pub IsDummyIn : {C : Type 0} → Numbers C → NumberGame C → ℕ → Type 0
IsDummyIn N g i =
    (s : ℕ) → s < 2 ^ g.players → has_player s i ≡ false →
    Equal N (g.worth (s + singleton i)) (N.plus (g.worth s) (g.worth (singleton i)))
