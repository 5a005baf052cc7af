-- Collections of coalitions, as clauses see them.
use Rattle.std.specs.Prelude.{ℕ, ℤ, List, ◌^◌, ◌<◌, ◌≤◌, length, unsigned_abs}
use Rattle.std.specs.List.{AllByRecursion}
use Rattle.definitions.specs.Games.{Game, Allocation, InCore}
use Rattle.definitions.specs.Balanced.{IsBalancedOfExcessWorth}

-- coalitions with their weights, and what these add to at each player
pub record CollectionData : Type 0 where
  pub weights : List (ℕ × ℤ)
  pub k : ℤ

-- at most as many coalitions as players, and their weights and k below 2^62
pub record IsSmall (n : ℕ) (c : CollectionData) : Type 0 where
  pub few : length c.weights ≤ n
  pub weights : AllByRecursion (λ p. unsigned_abs p.1 < 2 ^ 62) c.weights
  pub k : unsigned_abs c.k < 2 ^ 62

-- a balanced collection of excess worth, so that the core is empty
pub record ShowsEmpty (g : Game) (c : CollectionData) : Type 0 where
  pub balanced : IsBalancedOfExcessWorth g c.weights c.k
  pub small : IsSmall g.players c
  pub empty : (x : Allocation) → ¬ InCore g x
