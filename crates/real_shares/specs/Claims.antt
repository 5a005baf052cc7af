-- What is said of shares in fractions when all shares are real numbers, or numbers of any linearly ordered abelian
-- group. A contract can't speak of all sets, so the numbers of a group are named by sequences of integers, as real
-- numbers are by their decimals; the lemmas are of numbers of any set. A group comes with a test of its order.
--
--   IsNucleolusOverGroups   the nucleolus over every linearly ordered abelian group with a unit above zero
--   IsNucleolusForReals     written as real numbers, the nucleolus among real shares
--   InCoreForReals          written as real numbers, the shares are a core point
--   InPrekernelForReals     written as real numbers, the shares lie in the prekernel
--   HasNoCoreForReals       no real shares lie in the core
use Rattle.std.specs.Prelude.{ℕ, ℤ, List}
use Rattle.definitions.specs.Games.{Game, Allocation}
use Rattle.definitions.specs.declared.Family.{Family}
use Rattle.definitions.specs.declared.Measure.{Measure}
use Rattle.real_shares.specs.Numbers.{Numbers, IsOrderedGroup}
use Rattle.real_shares.specs.Shares.{IsNucleolusAmong, IsWrittenAs, IsNucleolusOver, InCoreOver, InPrekernelOver}
use Rattle.real_shares.specs.Reals.{Real, AreReals}

-- the nucleolus over every linearly ordered abelian group whose numbers have sequences of integers for names
abbrev pub IsNucleolusOverGroups : Family → Measure → Game → Allocation → Type 0
IsNucleolusOverGroups family measure g x =
    (N : Numbers (ℕ → ℤ)) → IsOrderedGroup N → IsNucleolusOver N family measure g x

abbrev pub IsNucleolusForReals : Family → Measure → Game → Allocation → Type 0
IsNucleolusForReals family measure g x =
    (N : Numbers Real) → AreReals N → (y : List Real) × IsWrittenAs N g x y × IsNucleolusAmong N family measure g y

abbrev pub InCoreForReals : Game → Allocation → Type 0
InCoreForReals g x = (N : Numbers Real) → AreReals N → (y : List Real) × IsWrittenAs N g x y × InCoreOver N g y

abbrev pub InPrekernelForReals : Game → Allocation → Type 0
InPrekernelForReals g x =
    (N : Numbers Real) → AreReals N → (y : List Real) × IsWrittenAs N g x y × InPrekernelOver N g y

abbrev pub HasNoCoreForReals : Game → Type 0
HasNoCoreForReals g = (N : Numbers Real) → AreReals N → (y : List Real) → ¬ InCoreOver N g y
