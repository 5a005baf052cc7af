-- What Littlechild's payments are, for any number of players. Each statement is the contract of a function of this
-- crate.
--
--   OrdersExist                             any players have an order by their costs
--   PaymentsExist                           in each such order there are payments
--   PaymentsAreTheNucleolus                 whatever shares are such payments, they are the nucleolus, and the
--                                           prenucleolus
--   PaymentsAreOne                          any two payments of the same costs are the same shares
--   EveryNucleolusIsPaid                    every nucleolus is payments, in each order
--   NobodyPaysMoreThanAloneByNucleolus      nobody pays more than the cost alone, nor less than nothing
--   NoGroupPaysMoreThanItsCostByNucleolus   no group pays more together than its greatest cost
--   AllPayTheGreatestCostByNucleolus        all together pay exactly the greatest cost
--   NewcomersMakeNobodyPayMore              if others join, nobody pays more
use Rattle.std.specs.Prelude.{◌≡◌, ℕ, ◌^◌, ◌<◌, List, length, ℤ, pos}
use Rattle.std.specs.Prelude.{◌++◌, ◌*ℤ◌, ◌≤ℤ◌, slice_index}
use Rattle.definitions.specs.Sums.{sum_below}
use Rattle.definitions.specs.Coalitions.{grand_coalition, sum_over}
use Rattle.definitions.specs.Classes.{greatest_cost}
use Rattle.definitions.specs.Games.{Allocation, IsSame, IsNucleolus}
use Rattle.definitions.specs.declared.Family.{Family}
use Rattle.definitions.specs.declared.Measure.TheVariants.{Plain}
use Rattle.orders.specs.Orders.{IsOrder}
use Rattle.airport_scheme.specs.Scheme.{IsPaid}
use Rattle.law_answers.specs.ClassGames.{airport_game}
use Rattle.law_answers.specs.Airports.{pays}

-- ---- that there are such payments

abbrev pub OrdersExist : Type 0
OrdersExist = (costs : List ℕ) → (at : ℕ → ℕ) × IsOrder (length costs) (slice_index costs) at

-- in each order of the players by their costs there are payments
abbrev pub PaymentsExist : Type 0
PaymentsExist =
    (costs : List ℕ) (at : ℕ → ℕ) → IsOrder (length costs) (slice_index costs) at →
    (pay : ℕ → ℤ) × (x : Allocation) × IsPaid costs at pay x

-- ---- that they are the nucleolus

-- whatever shares are payments, they are the nucleolus of the game by plain excess, and the prenucleolus
abbrev pub PaymentsAreTheNucleolus : Type 0
PaymentsAreTheNucleolus =
    (family : Family) (costs : List ℕ) (at : ℕ → ℕ) (pay : ℕ → ℤ) (x : Allocation) →
    IsPaid costs at pay x → IsNucleolus family Plain (airport_game costs) x

-- payments in any two orders are the same shares
abbrev pub PaymentsAreOne : Type 0
PaymentsAreOne =
    (costs : List ℕ) (at to : ℕ → ℕ) (pay more : ℕ → ℤ) (x y : Allocation) →
    IsPaid costs at pay x → IsPaid costs to more y → IsSame (airport_game costs) x y

-- every nucleolus of the game by plain excess, and every prenucleolus, is payments, in each order of the players by
-- their costs
abbrev pub EveryNucleolusIsPaid : Type 0
EveryNucleolusIsPaid =
    (family : Family) (costs : List ℕ) (at : ℕ → ℕ) (x : Allocation) →
    IsOrder (length costs) (slice_index costs) at → IsNucleolus family Plain (airport_game costs) x →
    (pay : ℕ → ℤ) × IsPaid costs at pay x

-- ---- what every nucleolus promises

abbrev pub NobodyPaysMoreThanAloneByNucleolus : Type 0
NobodyPaysMoreThanAloneByNucleolus =
    (family : Family) (costs : List ℕ) (x : Allocation) (i : ℕ) →
    IsNucleolus family Plain (airport_game costs) x → i < length costs →
    (pos 0 ≤ℤ pays x i) × (pays x i ≤ℤ (x.den *ℤ pos (slice_index costs i)))

abbrev pub NoGroupPaysMoreThanItsCostByNucleolus : Type 0
NoGroupPaysMoreThanItsCostByNucleolus =
    (family : Family) (costs : List ℕ) (x : Allocation) (s : ℕ) →
    IsNucleolus family Plain (airport_game costs) x → s < 2 ^ length costs →
    sum_over (length costs) (pays x) s ≤ℤ (x.den *ℤ pos (greatest_cost (length costs) (slice_index costs) s))

abbrev pub AllPayTheGreatestCostByNucleolus : Type 0
AllPayTheGreatestCostByNucleolus =
    (family : Family) (costs : List ℕ) (x : Allocation) →
    IsNucleolus family Plain (airport_game costs) x →
    sum_below (length costs) (pays x)
    ≡ x.den *ℤ pos (greatest_cost (length costs) (slice_index costs) (grand_coalition (length costs)))

-- ---- newcomers

-- whoever else comes to use the runway, shorter or longer, nobody pays more than without them
abbrev pub NewcomersMakeNobodyPayMore : Type 0
NewcomersMakeNobodyPayMore =
    (family : Family) (costs further : List ℕ) (x y : Allocation) (i : ℕ) →
    IsNucleolus family Plain (airport_game costs) x → IsNucleolus family Plain (airport_game (costs ++ further)) y →
    i < length costs → (pays y i *ℤ x.den) ≤ℤ (pays x i *ℤ y.den)
