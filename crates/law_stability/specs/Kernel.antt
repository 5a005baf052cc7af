-- The kernel.
-- Source: Davis and Maschler 1965; Maschler, Peleg and Shapley 1972; Peleg and Sudhölter, Introduction to the Theory
-- of Cooperative Games. Each law is the contract of a function of this crate.
--
--   Outweighs g x i j     the surplus of i against j is greater than that of j against i
--   InKernel g x          an imputation at which a player that is outweighed gets exactly its worth alone
--   NucleolusIsInKernel   the nucleolus lies in the kernel
--   KernelIsntEmpty       if there is an imputation, some shares lie in the kernel
--   AtACorePoint          at a core point, to lie in the kernel is to lie in the prekernel
--   WhoAddsNoLessGetsNoLess   at each point of the prekernel or of the kernel, who adds no less than another to each
--                         coalition without both gets no less (Maschler and Peleg 1966)
use Rattle.std.specs.Prelude.{◌≡◌, ◌≢◌, ◌⊎◌, ◌↔◌, ℕ, ◌<◌, ℤ, ◌*ℤ◌, ◌<ℤ◌, ◌≤ℤ◌}
use Rattle.definitions.specs.Coalitions.{singleton}
use Rattle.definitions.specs.Games.{Game, Allocation, share, InFamily, IsNucleolus, InCore}
use Rattle.definitions.specs.Players.{AddsNoLess}
use Rattle.definitions.specs.Prekernel.{IsSurplus, InPrekernel}
use Rattle.definitions.specs.declared.Family.TheVariants.{Imputations}
use Rattle.definitions.specs.declared.Measure.TheVariants.{Plain}

-- the most that coalitions with i and without j could do better is more than the most for those with j and without i
abbrev pub Outweighs : Game → Allocation → ℕ → ℕ → Type 0
Outweighs g x i j = (m : ℤ) × (k : ℤ) × IsSurplus g x i j m × IsSurplus g x j i k × (k <ℤ m)

-- an imputation at which whoever is outweighed by another gets just its worth alone, which nobody can take from it
abbrev pub InKernel : Game → Allocation → Type 0
InKernel g x =
    InFamily Imputations g x
    × ((i j : ℕ) → i < g.players → j < g.players → i ≢ j → Outweighs g x i j
    → share x j ≡ x.den *ℤ g.worth (singleton j))

abbrev pub NucleolusIsInKernel : Type 0
NucleolusIsInKernel = (g : Game) (x : Allocation) → IsNucleolus Imputations Plain g x → InKernel g x

abbrev pub KernelIsntEmpty : Type 0
KernelIsntEmpty = (g : Game) (y : Allocation) → InFamily Imputations g y → (x : Allocation) × InKernel g x

-- a core point lies in the kernel exactly when it lies in the prekernel
abbrev pub AtACorePoint : Type 0
AtACorePoint = (g : Game) (x : Allocation) → InCore g x → InKernel g x ↔ InPrekernel g x

abbrev pub WhoAddsNoLessGetsNoLess : Type 0
WhoAddsNoLessGetsNoLess =
    (g : Game) (x : Allocation) (i j : ℕ) → InPrekernel g x ⊎ InKernel g x → i < g.players → j < g.players →
    AddsNoLess g i j → share x j ≤ℤ share x i
