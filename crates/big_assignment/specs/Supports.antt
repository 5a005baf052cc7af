-- Shares as prices of a matching, and the ends of the core (Shapley and Shubik 1971).
--
--   IsSingle rows ps k    player k is in no pair of the matching
--   Supports rows ps x    each pair of the matching gets its worth, the other players nothing, and no two players less
--                         than they are worth
--   IsWorstFor g side x   in the core, and no core point gives a player of the side less
use Rattle.std.specs.Prelude.{◌≡◌, ◌≢◌, ℕ, ◌+◌, ◌<◌, List, length, ℤ, pos, ◌+ℤ◌}
use Rattle.std.specs.Prelude.{◌*ℤ◌, ◌≤ℤ◌}
use Rattle.std.specs.List.{AllByRecursion}
use Rattle.definitions.specs.Games.{Game, Allocation, IsAllocation, InCore, share}
use Rattle.matrices.specs.Rows.{entries_of}
use Rattle.assignment_games.specs.Assignments.{seller_count, assignment_game}

abbrev pub IsSingle : ℕ → List (ℕ × ℕ) → ℕ → Type 0
IsSingle rows ps k = AllByRecursion (λ p. (k ≢ p.0) × (k ≢ rows + p.1)) ps

-- nobody gets less than nothing, no buyer and seller less than they are worth together, the pairs of the matching
-- exactly that, and the other players nothing
pub record Supports (rows : List (List ℤ)) (ps : List (ℕ × ℕ)) (x : Allocation) : Type 0 where
  pub allocation : IsAllocation (assignment_game rows) x
  pub some : (k : ℕ) → k < length rows + seller_count rows → pos 0 ≤ℤ share x k
  pub enough : (i j : ℕ) → i < length rows → j < seller_count rows
      → (x.den *ℤ pos (entries_of rows i j)) ≤ℤ (share x i +ℤ share x (length rows + j))
  pub exact : AllByRecursion
      (λ p. x.den *ℤ pos (entries_of rows p.0 p.1) ≡ share x p.0 +ℤ share x (length rows + p.1)) ps
  pub nothing : (k : ℕ) → k < length rows + seller_count rows → IsSingle (length rows) ps k → share x k ≡ pos 0

-- x is in the core, and no core point, over any denominator, gives a player of the side less
abbrev pub IsWorstFor : Game → (ℕ → Type 0) → Allocation → Type 0
IsWorstFor g side x =
    InCore g x
    × ((y : Allocation) → InCore g y → (i : ℕ) → i < g.players → side i
    → (share x i *ℤ y.den) ≤ℤ (share y i *ℤ x.den))
