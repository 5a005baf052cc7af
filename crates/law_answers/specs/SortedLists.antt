-- What sorting a list of numbers means, and that the lists of excesses may hold all coalitions or only the proper
-- ones.
--
--   times_in z xs               how often a number stands in a list
--   Falls xs                    no number is greater than one before it
--   IsSortingOf xs ys           the list ys falls, and holds each number as often as xs
--   SortedIsTheSorting          sorted xs is such a list, and the only one
--   all_excesses                the measured excesses of all coalitions, also of the empty one and that of all
--   BeatsAmongAll               over these lists, the excesses of x from the greatest come before those of y
--   LeavingOutChangesNothing    for efficient allocations, that is the same as over only the proper coalitions
--   IsNucleolusAmongAll         a member of the family that beats every other member over these lists
--   NucleolusAmongAll           that is the same as the nucleolus
use Rattle.std.specs.Prelude.{◌≡◌, ◌↔◌, ℕ, ◌+◌, ◌^◌, List, [], ◌∷◌, map, ℤ}
use Rattle.std.specs.Prelude.{◌*ℤ◌, ◌≤ℤ◌, if◌then◌else◌}
use Rattle.std.specs.List.{AllByRecursion, range_with_len}
use Rattle.std.specs.Ordering.{int_eq}
use Rattle.definitions.specs.Games.{Game, Allocation, measured_excess, IsAllocation, IsEfficient, InFamily, IsSame}
use Rattle.definitions.specs.Games.{Beats, IsNucleolus}
use Rattle.definitions.specs.Order.{sorted, ComesBefore}
use Rattle.definitions.specs.declared.Family.{Family}
use Rattle.definitions.specs.declared.Measure.{Measure}

-- how often z stands in the list
abbrev pub times_in : ℤ → List ℤ → ℕ
times_in z [] = 0
times_in z (x ∷ xs) = (if int_eq x z then 1 else 0) + times_in z xs

abbrev pub Falls : List ℤ → Type 0
Falls [] = Unit {0}
Falls (x ∷ xs) = AllByRecursion (λ y. y ≤ℤ x) xs × Falls xs

-- ys has the numbers of xs, each as often, from the greatest
pub record IsSortingOf (xs ys : List ℤ) : Type 0 where
  pub falls : Falls ys
  pub same : (z : ℤ) → times_in z ys ≡ times_in z xs

-- sorted gives such a list, and there is no other
abbrev pub SortedIsTheSorting : Type 0
SortedIsTheSorting = (xs ys : List ℤ) → IsSortingOf xs ys ↔ (ys ≡ sorted xs)

-- ---- the lists of excesses

-- the measured excesses of all coalitions, times a number
abbrev pub all_excesses : Measure → Game → Allocation → ℤ → List ℤ
all_excesses measure g x c = map (λ s. c *ℤ measured_excess measure g x s) (range_with_len 0 (2 ^ g.players))

-- over one denominator, these from the greatest come before those of y
abbrev pub BeatsAmongAll : Measure → Game → Allocation → Allocation → Type 0
BeatsAmongAll measure g x y =
    ComesBefore (sorted (all_excesses measure g x y.den)) (sorted (all_excesses measure g y x.den))

-- of two efficient allocations the empty coalition and that of all have the same excess, so no comparison changes
abbrev pub LeavingOutChangesNothing : Type 0
LeavingOutChangesNothing =
    (measure : Measure) (g : Game) (x y : Allocation) → IsAllocation g x → IsAllocation g y →
    IsEfficient g x → IsEfficient g y → Beats measure g x y ↔ BeatsAmongAll measure g x y

-- a member of the family that beats every other member over all coalitions, as Schmeidler (1969) has it
abbrev pub IsNucleolusAmongAll : Family → Measure → Game → Allocation → Type 0
IsNucleolusAmongAll family measure g x =
    InFamily family g x × ((y : Allocation) → InFamily family g y → ¬ IsSame g x y → BeatsAmongAll measure g x y)

-- and so neither does the nucleolus
abbrev pub NucleolusAmongAll : Type 0
NucleolusAmongAll =
    (family : Family) (measure : Measure) (g : Game) (x : Allocation) →
    IsNucleolus family measure g x ↔ IsNucleolusAmongAll family measure g x
