-- The scale of a game: the least common denominator of its numbers. It is 1 for a game of version 1, whose numbers
-- are all integers: the scale doesn't look at the version, since in version 1 a text in the place of a number is
-- refused as Shape.
--
--   if_there            what is there
--   second_part         the second of two items
--   pair_number         the number of a pair of a coalition and a number
--   all_parts           what each of some trees has, one after another
--   table_numbers_in    the numbers of a table
--   player_numbers_in   costs, an estate and claims
--   matrix_numbers_in   the entries of a matrix, row by row
--   game_numbers        the numbers of a game, where they stand in its tree
--   game_fractions      the numbers of a game as fractions
--   scale_of            their least common denominator
--   IsScaleOf           the same, said of a number
--   if_scale            a scale, if it is at most 65,536
use Rattle.std.specs.Prelude.{ℕ, ℤ, codes, List, [], ◌∷◌, ◌++◌, map, Option}
use Rattle.std.specs.Prelude.{Some, None, nat_le, if◌then◌else◌}
use Rattle.serde_json.specs.Data.{Data}
use Rattle.serde_json.specs.Find.{get}
use Rattle.fractions.specs.Fraction.{Fraction}
use Rattle.json_trees.specs.Fractions.{fraction_or_zero}
use Rattle.json_trees.specs.Trees.{parts, parts_at}
use Rattle.worth_core.specs.LeastDenominators.{IsLeastDenominator}
use Rattle.document_parts.specs.CommonMultiples.{least_denominator}

-- ---- the numbers of a game

abbrev pub if_there : Option Data → List Data
if_there None = []
if_there (Some d) = d ∷ []

abbrev pub second_part : List Data → List Data
second_part (x ∷ y ∷ []) = y ∷ []
second_part _ = []

abbrev pub pair_number : Data → List Data
pair_number pair = second_part (parts pair)

-- what each of them has, one after another
abbrev pub all_parts : (Data → List Data) → List Data → List Data
all_parts f [] = []
all_parts f (d ∷ ds) = f d ++ all_parts f ds

-- the numbers of a table: of all coalitions, of those in pairs, and of the others
abbrev pub table_numbers_in : Data → List Data
table_numbers_in game =
    parts_at (codes "worths") game
    ++ (all_parts pair_number (parts_at (codes "sparse") game) ++ if_there (get (codes "default") game))

abbrev pub player_numbers_in : Data → List Data
player_numbers_in game =
    parts_at (codes "costs") game ++ (if_there (get (codes "estate") game) ++ parts_at (codes "claims") game)

abbrev pub matrix_numbers_in : Data → List Data
matrix_numbers_in game = all_parts parts (parts_at (codes "matrix") game)

-- the worths, costs, claims, estate and matrix entries of a game; a game of one class has no keys of another
-- (so a new class changes nothing here, unless it has fractions at a key of its own)
abbrev pub game_numbers : Data → List Data
game_numbers game = table_numbers_in game ++ (player_numbers_in game ++ matrix_numbers_in game)

-- ---- the scale

abbrev pub game_fractions : Data → List Fraction
game_fractions game = map fraction_or_zero (game_numbers game)

-- the least common denominator of the numbers of a game
abbrev pub scale_of : Data → ℕ
scale_of game = least_denominator (game_fractions game)

-- k is the least common denominator of the numbers of a game
abbrev pub IsScaleOf : Data → ℤ → Type 0
IsScaleOf game k = IsLeastDenominator (game_fractions game) k

abbrev pub if_scale : ℕ → Option ℕ
if_scale k = if nat_le k 65536 then Some k else None
