-- What the nucleolus promises if worths and shares are real numbers. Each statement is the contract of a function
-- of this crate.
--
--   NucleolusIsUnique              two nucleoli of one game and family have the same shares (Schmeidler 1969)
--   UnbeatenIsNucleolus            a member that no other comes before is the nucleolus, and only that one
--   NucleolusIsInCore              if some shares are in the core, the nucleolus is, and so is the prenucleolus
--   WithACoreBothAreOne            and they are one
--   WhoAddsNoLessGetsNoLess        who adds no less than another everywhere gets no less
--   AlikePlayersGetAlike           players that the game doesn't tell apart get the same
--   DummiesGetTheirWorth           who adds its worth alone to each coalition gets exactly that
--   RealsCanHalve                  each real number is twice a real number
--   IsUnitChange                   an additive change of all numbers that keeps their order, there and back
--   changed_game, changed_shares   worths and shares in the new unit, and each player's number added
--   FactorsAreChanges              each real factor above zero is such a change
--   ChangesAreOne                  and the only one that makes the unit that factor
--   EquivalentGamesAgree           the nucleolus changes as the worths do (covariance under strategic equivalence)
use Rattle.std.specs.Prelude.{◌↔◌, ℕ, ◌<◌, List, length, map, pos}
use Rattle.std.specs.List.{range_with_len}
use Rattle.definitions.specs.Coalitions.{singleton}
use Rattle.definitions.specs.declared.Family.{Family}
use Rattle.definitions.specs.declared.Family.TheVariants.{Imputations, Preimputations}
use Rattle.real_shares.specs.Numbers.{Numbers, AtMost, Equal, times, total_over}
use Rattle.real_shares.specs.Reals.{Real, AreReals}
use Rattle.real_shares.specs.Shares.{number_of}
use Rattle.law_real_worths.specs.Games.{NumberGame, HaveSameIn, IsNucleolusIn, InCoreIn, CanHalve}
use Rattle.law_real_worths.specs.Games.{IsUnbeatenIn, AddsNoLessIn, AreInterchangeableIn, IsDummyIn}

abbrev pub NucleolusIsUnique : Type 0
NucleolusIsUnique =
    (N : Numbers Real) (family : Family) (g : NumberGame Real) (y z : List Real) → AreReals N →
    IsNucleolusIn N family g y → IsNucleolusIn N family g z → HaveSameIn N g y z

-- a member is the nucleolus exactly when no member comes before it: the least list belongs to one member alone
-- (Schmeidler 1969)
abbrev pub UnbeatenIsNucleolus : Type 0
UnbeatenIsNucleolus =
    (N : Numbers Real) (family : Family) (g : NumberGame Real) (y : List Real) → AreReals N →
    IsUnbeatenIn N family g y ↔ IsNucleolusIn N family g y

abbrev pub NucleolusIsInCore : Type 0
NucleolusIsInCore =
    (N : Numbers Real) (family : Family) (g : NumberGame Real) (y z : List Real) → AreReals N →
    IsNucleolusIn N family g y → InCoreIn N g z → InCoreIn N g y

-- and the prenucleolus is the nucleolus, and the nucleolus is the prenucleolus
abbrev pub WithACoreBothAreOne : Type 0
WithACoreBothAreOne =
    (N : Numbers Real) (g : NumberGame Real) (y z : List Real) → AreReals N → InCoreIn N g z →
    IsNucleolusIn N Preimputations g y ↔ IsNucleolusIn N Imputations g y

-- ---- players

-- a player that adds no less than another everywhere gets no less, of the nucleolus and the prenucleolus
abbrev pub WhoAddsNoLessGetsNoLess : Type 0
WhoAddsNoLessGetsNoLess =
    (N : Numbers Real) (family : Family) (g : NumberGame Real) (y : List Real) (i j : ℕ) → AreReals N →
    IsNucleolusIn N family g y → i < g.players → j < g.players → AddsNoLessIn N g i j →
    AtMost N (number_of N y j) (number_of N y i)

abbrev pub AlikePlayersGetAlike : Type 0
AlikePlayersGetAlike =
    (N : Numbers Real) (family : Family) (g : NumberGame Real) (y : List Real) (i j : ℕ) → AreReals N →
    IsNucleolusIn N family g y → i < g.players → j < g.players → AreInterchangeableIn N g i j →
    Equal N (number_of N y i) (number_of N y j)

-- a player that adds its worth alone to each coalition without it gets just that
abbrev pub DummiesGetTheirWorth : Type 0
DummiesGetTheirWorth =
    (N : Numbers Real) (family : Family) (g : NumberGame Real) (y : List Real) (i : ℕ) → AreReals N →
    IsNucleolusIn N family g y → i < g.players → IsDummyIn N g i →
    Equal N (number_of N y i) (g.worth (singleton i))

abbrev pub RealsCanHalve : Type 0
RealsCanHalve = (N : Numbers Real) → AreReals N → CanHalve N

-- ---- a change of the unit, and what each brings of its own

-- an additive change of all numbers that keeps their order, and the change back: as a positive factor and its inverse
-- (numbers of an ordered group are added and compared, and not multiplied; of the real numbers the positive factors are
-- such changes, and a change is determined by what becomes of the unit)
pub record IsUnitChange {C : Type 0} (N : Numbers C) (to back : C → C) : Type 0 where
  pub adds : (a b : C) → Equal N (to (N.plus a b)) (N.plus (to a) (to b))
  pub keeps : (a b : C) → AtMost N a b → AtMost N (to a) (to b)
  pub keeps_back : (a b : C) → AtMost N a b → AtMost N (back a) (back b)
  pub there : (a : C) → Equal N (to (back a)) a
  pub again : (a : C) → Equal N (back (to a)) a

-- a real factor r above zero, so that k times r comes up to the unit: the unit becomes r, and since the change is
-- additive and keeps the order, each number becomes r times as much
abbrev pub FactorsAreChanges : Type 0
FactorsAreChanges =
    (N : Numbers Real) (r : Real) (k : ℕ) → AreReals N → AtMost N N.unit (times N (pos k) r) →
    (to : Real → Real) × (back : Real → Real) × IsUnitChange N to back × Equal N (to N.unit) r

-- two changes that make the unit the same number change each number alike
abbrev pub ChangesAreOne : Type 0
ChangesAreOne =
    (N : Numbers Real) (to back other other_back : Real → Real) → AreReals N → IsUnitChange N to back →
    IsUnitChange N other other_back → Equal N (to N.unit) (other N.unit) → (a : Real) → Equal N (to a) (other a)

-- the worths in the new unit, each more by the numbers of its members
abbrev pub changed_game : {C : Type 0} → Numbers C → (C → C) → (ℕ → C) → NumberGame C → NumberGame C
changed_game N to b g =
    record { players = g.players; worth = λ s. N.plus (to (g.worth s)) (total_over N g.players b s) }

-- the shares in the new unit, each more by the player's number
abbrev pub changed_shares : {C : Type 0} → Numbers C → (C → C) → (ℕ → C) → List C → List C
changed_shares N to b y = map (λ i. N.plus (to (number_of N y i)) (b i)) (range_with_len 0 (length y))

-- the nucleolus changes by the same (and there is no other, by NucleolusIsUnique)
abbrev pub EquivalentGamesAgree : Type 0
EquivalentGamesAgree =
    (N : Numbers Real) (to back : Real → Real) (b : ℕ → Real) (family : Family) (g : NumberGame Real)
    (y : List Real) → AreReals N → IsUnitChange N to back → IsNucleolusIn N family g y →
    IsNucleolusIn N family (changed_game N to b g) (changed_shares N to b y)
