-- Examples that meet the definitions, and examples that don't.
--
--   two N c            two players who together are worth c, and alone nothing
--   second N c         two players, of whom the second is worth c alone
--   TwoShare           they share it, whatever real number it is, such as the root of 2
--   DoublingIsAChange  twice each number is a change of the unit, and zero for each isn't
--   IntegersCantHalve  each real number is twice a number, and not each integer twice an integer
--   SomeAddNoLess      who adds no less, and who doesn't; a dummy
--   SinglesBalance     the players alone are balanced, and one of two isn't
use Rattle.std.specs.Prelude.{nat_eq, ◌||◌, [], ◌∷◌, if◌then◌else◌, pos}
use Rattle.definitions.specs.declared.Family.TheVariants.{Preimputations}
use Rattle.real_shares.specs.Numbers.{Numbers, Less, Equal}
use Rattle.real_shares.specs.Reals.{Real, AreReals}
use Rattle.real_shares.specs.Theorems.{fractions_over}
use Rattle.law_real_worths.specs.Games.{NumberGame, IsNucleolusIn, InCoreIn, CanHalve, AreInterchangeableIn, IsDummyIn}
use Rattle.law_real_worths.specs.Games.{IsUnbeatenIn, AddsNoLessIn}
use Rattle.law_real_worths.specs.KohlbergTheorem.{IsBalancedTest}
use Rattle.law_real_worths.specs.RealWorths.{IsUnitChange}

abbrev pub two : {C : Type 0} → Numbers C → C → NumberGame C
two N c = record { players = 2; worth = λ s. if nat_eq s 3 then c else N.zero }

-- of a number above zero each gets half; all for the first is no nucleolus, and doesn't go unbeaten; twice all for the
-- first is no core point; and in no such game is the first a dummy
abbrev pub TwoShare : Type 0
TwoShare =
    (N : Numbers Real) (c h : Real) → AreReals N → Equal N (N.plus h h) c → Less N N.zero c →
    AreInterchangeableIn N (two N c) 0 1
    × ¬ IsDummyIn N (two N c) 0
    × InCoreIn N (two N c) (h ∷ (h ∷ []))
    × ¬ InCoreIn N (two N c) (N.plus c c ∷ (N.minus c ∷ []))
    × IsNucleolusIn N Preimputations (two N c) (h ∷ (h ∷ []))
    × ¬ IsNucleolusIn N Preimputations (two N c) (c ∷ (N.zero ∷ []))
    × IsUnbeatenIn N Preimputations (two N c) (h ∷ (h ∷ []))
    × ¬ IsUnbeatenIn N Preimputations (two N c) (c ∷ (N.zero ∷ []))

abbrev pub DoublingIsAChange : Type 0
DoublingIsAChange =
    (N : Numbers Real) → AreReals N →
    ((back : Real → Real) × IsUnitChange N (λ a. N.plus a a) back)
    × ((back : Real → Real) → ¬ IsUnitChange N (λ a. N.zero) back)

abbrev pub IntegersCantHalve : Type 0
IntegersCantHalve = ¬ CanHalve (fractions_over (pos 1))

abbrev pub second : {C : Type 0} → Numbers C → C → NumberGame C
second N c = record { players = 2; worth = λ s. if nat_eq s 2 then c else N.zero }

-- if the second alone is worth a number above zero, it adds no less than the first, the first adds less, and they
-- aren't interchangeable; and if nobody is worth anything, the first is a dummy
abbrev pub SomeAddNoLess : Type 0
SomeAddNoLess =
    (N : Numbers Real) (c : Real) → AreReals N → Less N N.zero c →
    AddsNoLessIn N (second N c) 1 0 × ¬ AddsNoLessIn N (second N c) 0 1
    × ¬ AreInterchangeableIn N (second N c) 0 1 × IsDummyIn N (two N N.zero) 0

abbrev pub SinglesBalance : Type 0
SinglesBalance = IsBalancedTest 2 (λ s. nat_eq s 1 || nat_eq s 2) × ¬ IsBalancedTest 2 (λ s. nat_eq s 1)
