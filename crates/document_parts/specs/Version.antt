-- The version of a game. In version 2 a number may be written as a fraction text.
--
--   is_version   the integer 1 or 2
--   has_texts    the game is of version 2
use Rattle.std.specs.Prelude.{pos, codes, Bool, ◌||◌}
use Rattle.std.specs.Ordering.{int_eq}
use Rattle.serde_json.specs.Data.{Data}
use Rattle.serde_json.specs.Find.{get}
use Rattle.json_trees.specs.Integers.{integer_or_zero}
use Rattle.json_trees.specs.Trees.{passes}

abbrev pub is_version : Data → Bool
is_version d = int_eq (integer_or_zero d) (pos 1) || int_eq (integer_or_zero d) (pos 2)

-- the integer 2
abbrev pub is_second_version : Data → Bool
is_second_version d = int_eq (integer_or_zero d) (pos 2)

-- the game is of version 2; a game that says nothing of it is of version 1
abbrev pub has_texts : Data → Bool
has_texts game = passes is_second_version (get (codes "version") game)
