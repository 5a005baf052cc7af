-- What is proved of orders and of Shapley totals. Each statement is the contract of a function of this crate.
--
--   OrdersSumToSubsets   the sum over all orders is a sum over coalitions (Shapley 1953)
--   OrdersAreAll         the list of orders has only orders, and each one exactly once
use Rattle.std.specs.Prelude.{◌≡◌, ℕ, ◌<◌, List}
use Rattle.std.specs.List.{AllByRecursion}
use Rattle.definitions.specs.Games.{Game}
use Rattle.definitions.specs.Shapley.{IsOrder, shapley_total, orders}
use Rattle.shapley.specs.Each.{times}
use Rattle.shapley.specs.Subsets.{subset_total}

-- the sum over all orders is the sum over the coalitions without the player
abbrev pub OrdersSumToSubsets : Type 0
OrdersSumToSubsets = (g : Game) (i : ℕ) → i < g.players → shapley_total g i ≡ subset_total g.worth g.players i

abbrev pub OrdersAreAll : Type 0
OrdersAreAll =
    (n : ℕ) → AllByRecursion (IsOrder n) (orders n) × ((o : List ℕ) → IsOrder n o → times o (orders n) ≡ 1)
