-- What is proved of matchings.
use Rattle.std.specs.Prelude.{ℤ, List, length}
use Rattle.definitions.specs.Classes.{IsAssignmentGame}
use Rattle.matrices.specs.Rows.{entries_of}
use Rattle.assignment_games.specs.Assignments.{assignment_game}

-- the worths that are computed row by row are those of optimal matchings, for all rows
abbrev pub WorthsAreOptimal : Type 0
WorthsAreOptimal = (rows : List (List ℤ)) → IsAssignmentGame (entries_of rows) (length rows) (assignment_game rows)
