-- Games in which it harms no coalition that a player joins it (zero-monotonic games).
-- Source: Maschler, Peleg and Shapley 1972; Peleg and Sudhölter, Introduction to the Theory of Cooperative Games. Each
-- law is the contract of a function of this crate.
--
--   IsZeroMonotonic g         who joins a coalition adds at least its worth alone
--   ConvexIsZeroMonotonic     convex games are so
--   KernelIsPrekernel         there the kernel is the prekernel
--   PrenucleolusIsNucleolus   and the prenucleolus is the nucleolus: it gives nobody less than its worth alone
use Rattle.std.specs.Prelude.{◌≡◌, ◌↔◌, ℕ, ◌+◌, ◌^◌, ◌<◌, false, pos, ◌+ℤ◌, ◌≤ℤ◌}
use Rattle.definitions.specs.Coalitions.{has_player, singleton}
use Rattle.definitions.specs.Convexity.{IsConvex}
use Rattle.definitions.specs.Games.{Game, Allocation, IsNucleolus}
use Rattle.definitions.specs.Prekernel.{InPrekernel}
use Rattle.definitions.specs.declared.Family.TheVariants.{Imputations, Preimputations}
use Rattle.definitions.specs.declared.Measure.TheVariants.{Plain}
use Rattle.law_stability.specs.Kernel.{InKernel}

-- a player adds to each coalition without it at least its worth alone
abbrev pub IsZeroMonotonic : Game → Type 0
IsZeroMonotonic g =
    (s i : ℕ) → s < 2 ^ g.players → i < g.players → has_player s i ≡ false →
    (g.worth s +ℤ g.worth (singleton i)) ≤ℤ g.worth (s + singleton i)

-- a convex game in which the empty coalition is worth nothing is so
abbrev pub ConvexIsZeroMonotonic : Type 0
ConvexIsZeroMonotonic = (g : Game) → g.worth 0 ≡ pos 0 → IsConvex g → IsZeroMonotonic g

-- the kernel of a zero-monotonic game is its prekernel
abbrev pub KernelIsPrekernel : Type 0
KernelIsPrekernel = (g : Game) (x : Allocation) → IsZeroMonotonic g → InKernel g x ↔ InPrekernel g x

abbrev pub PrenucleolusIsNucleolus : Type 0
PrenucleolusIsNucleolus =
    (g : Game) (x : Allocation) → IsZeroMonotonic g →
    IsNucleolus Preimputations Plain g x ↔ IsNucleolus Imputations Plain g x
