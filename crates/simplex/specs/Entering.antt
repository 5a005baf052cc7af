-- Columns that improve the objective: any of them, and the least.
use Rattle.std.specs.Prelude.{ℕ, ◌<◌, IsTrue, List, ℤ, ◌*ℤ◌, ◌<ℤ◌, ◌≤ℤ◌}
use Rattle.definitions.specs.Programs.{Program, value_of}

-- a column whose cost is above the multipliers' value
pub record IsImprovingColumn (p : Program) (multipliers : List ℤ) (den : ℤ) (id : ℕ) : Type 0 where
  pub is_column : IsTrue (p.is_column id)
  pub above : value_of p multipliers (p.entry id) <ℤ (den *ℤ p.cost id)

-- the least column whose cost is above the multipliers' value
pub record IsEntering (p : Program) (multipliers : List ℤ) (den : ℤ) (id : ℕ) : Type 0 where
  pub is_column : IsTrue (p.is_column id)
  pub above : value_of p multipliers (p.entry id) <ℤ (den *ℤ p.cost id)
  pub least : (j : ℕ) → j < id → IsTrue (p.is_column j) → (den *ℤ p.cost j) ≤ℤ value_of p multipliers (p.entry j)
