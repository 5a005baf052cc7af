-- What is proved of markets (Shapley and Shubik 1971).
use Rattle.std.specs.Prelude.{◌↔◌, ℕ, ℤ, List, length}
use Rattle.definitions.specs.Coalitions.{has_player}
use Rattle.definitions.specs.Games.{Allocation, InCore}
use Rattle.definitions.specs.Classes.{IsMatching, matching_value, IsGreatestValue}
use Rattle.definitions.specs.Sides.{IsBestFor, IsBuyer, IsSeller}
use Rattle.matrices.specs.Rows.{entries_of}
use Rattle.assignment_games.specs.Assignments.{assignment_game}
use Rattle.big_assignment.specs.Markets.{everybody}
use Rattle.big_assignment.specs.Supports.{Supports, IsWorstFor}

-- shares support a matching of all players exactly when no matching has a greater value and the shares are in the core
abbrev pub ShapleyShubik : Type 0
ShapleyShubik =
    (rows : List (List ℤ)) (ps : List (ℕ × ℕ)) (x : Allocation)
    → IsMatching (length rows) (has_player (everybody rows)) ps
    → Supports rows ps x
    ↔ (IsGreatestValue (entries_of rows) (length rows) (everybody rows) (matching_value (entries_of rows) ps)
    × InCore (assignment_game rows) x)

-- the core point of the least prices is best for every buyer, and that of the greatest prices gives every buyer least
abbrev pub SidesAreOpposed : Type 0
SidesAreOpposed =
    (rows : List (List ℤ)) (x : Allocation)
    → (IsBestFor (assignment_game rows) (IsBuyer (length rows)) x
    ↔ IsWorstFor (assignment_game rows) (IsSeller (length rows)) x)
    × (IsBestFor (assignment_game rows) (IsSeller (length rows)) x
    ↔ IsWorstFor (assignment_game rows) (IsBuyer (length rows)) x)
