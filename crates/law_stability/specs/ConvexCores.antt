-- Convex games of any number of players (Shapley 1971). Each law is the contract of a function of this crate.
--
--   MarginalsAreInCore          the marginal shares of each order lie in the core
--   ShapleyIsInCore             and so does the Shapley value
--   ConvexBargainingSetIsCore   and the bargaining set is the core (Maschler, Peleg and Shapley 1972)
--   ConvexKernelIsOnePoint      two points of the kernel have the same shares (Maschler, Peleg and Shapley 1972)
--   ConvexKernelIsNucleolus     so only the nucleolus lies in the kernel
--   ConvexPrekernelIsPrenucleolus   and only the prenucleolus in the prekernel
use Rattle.std.specs.Prelude.{◌≡◌, ◌↔◌, ℕ, List, pos}
use Rattle.definitions.specs.Games.{Game, Allocation, InCore, IsSame, IsNucleolus}
use Rattle.definitions.specs.Shapley.{IsOrder, IsShapley}
use Rattle.definitions.specs.Convexity.{IsConvex, IsMarginal}
use Rattle.definitions.specs.Prekernel.{InPrekernel}
use Rattle.definitions.specs.declared.Family.TheVariants.{Imputations, Preimputations}
use Rattle.definitions.specs.declared.Measure.TheVariants.{Plain}
use Rattle.law_stability.specs.BargainingSet.{InBargainingSet}
use Rattle.law_stability.specs.Kernel.{InKernel}

-- of a convex game in which the empty coalition is worth nothing, the marginal shares of each order lie in the core
abbrev pub MarginalsAreInCore : Type 0
MarginalsAreInCore =
    (g : Game) (order : List ℕ) (x : Allocation) → g.worth 0 ≡ pos 0 → IsConvex g → IsOrder g.players order →
    IsMarginal g order x → InCore g x

abbrev pub ShapleyIsInCore : Type 0
ShapleyIsInCore =
    (g : Game) (x : Allocation) → g.worth 0 ≡ pos 0 → IsConvex g → IsShapley g x → InCore g x

-- and the bargaining set is the core: at any other imputation some objection can't be countered
abbrev pub ConvexBargainingSetIsCore : Type 0
ConvexBargainingSetIsCore =
    (g : Game) (x : Allocation) → g.worth 0 ≡ pos 0 → IsConvex g → InBargainingSet g x ↔ InCore g x

-- and the kernel is one point
abbrev pub ConvexKernelIsOnePoint : Type 0
ConvexKernelIsOnePoint =
    (g : Game) (x y : Allocation) → g.worth 0 ≡ pos 0 → IsConvex g → InKernel g x → InKernel g y → IsSame g x y

abbrev pub ConvexKernelIsNucleolus : Type 0
ConvexKernelIsNucleolus =
    (g : Game) (x : Allocation) → g.worth 0 ≡ pos 0 → IsConvex g → InKernel g x ↔ IsNucleolus Imputations Plain g x

-- so the surpluses alone tell the prenucleolus of a convex game
abbrev pub ConvexPrekernelIsPrenucleolus : Type 0
ConvexPrekernelIsPrenucleolus =
    (g : Game) (x : Allocation) → IsConvex g → InPrekernel g x ↔ IsNucleolus Preimputations Plain g x
