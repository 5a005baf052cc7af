-- If worths are whole numbers, the notions of real worths are those of whole worths and real shares.
--
--   AreTheSameOfWhole N g   each notion of the game of whole numbers, times the unit, is its fellow
--   WholeWorthsAgree        so it is of every game
use Rattle.std.specs.Prelude.{◌↔◌, ℕ, List}
use Rattle.definitions.specs.Games.{Game}
use Rattle.definitions.specs.Players.{IsDummy, AddsNoLess, AreInterchangeable}
use Rattle.definitions.specs.declared.Family.{Family}
use Rattle.definitions.specs.declared.Measure.TheVariants.{Plain}
use Rattle.real_shares.specs.Numbers.{Numbers}
use Rattle.real_shares.specs.Reals.{Real, AreReals}
use Rattle.real_shares.specs.Shares.{InFamilyOver, IsNucleolusAmong, InCoreOver}
use Rattle.law_real_worths.specs.Games.{whole_worths, InFamilyIn, IsNucleolusIn, InCoreIn, AddsNoLessIn}
use Rattle.law_real_worths.specs.Games.{AreInterchangeableIn, IsDummyIn}

-- the families, the nucleolus and the core are those among real shares, whatever the numbers are; if these are the
-- real numbers, what players add is compared as whole numbers are
pub record AreTheSameOfWhole (N : Numbers Real) (g : Game) : Type 0 where
  pub family : (f : Family) (y : List Real) → InFamilyIn N f (whole_worths N g) y ↔ InFamilyOver N f g y
  pub nucleolus : (f : Family) (y : List Real)
      → IsNucleolusIn N f (whole_worths N g) y ↔ IsNucleolusAmong N f Plain g y
  pub core : (y : List Real) → InCoreIn N (whole_worths N g) y ↔ InCoreOver N g y
  pub adds_no_less : AreReals N → (i j : ℕ) → AddsNoLessIn N (whole_worths N g) i j ↔ AddsNoLess g i j
  pub interchangeable : AreReals N → (i j : ℕ)
      → AreInterchangeableIn N (whole_worths N g) i j ↔ AreInterchangeable g i j
  pub dummy : AreReals N → (i : ℕ) → IsDummyIn N (whole_worths N g) i ↔ IsDummy g i

abbrev pub WholeWorthsAgree : Type 0
WholeWorthsAgree = (N : Numbers Real) (g : Game) → AreTheSameOfWhole N g
