-- The integers of a JSON tree.
--
--   is_integer        an integer
--   integer_or_zero   the integer that a number is, and 0 for anything else
--   integer_at        the integer at a key
--   second_integer    the integer of the second of two items
use Rattle.std.specs.Prelude.{ℕ, ℤ, pos, List, [], ◌∷◌, Bool, is_some, option_and_then, unwrap_or}
use Rattle.serde_json.specs.Data.{Data}
use Rattle.serde_json.specs.Find.{get}
use Rattle.json_trees.specs.Trees.{integer}

abbrev pub is_integer : Data → Bool
is_integer d = is_some (integer d)

abbrev pub integer_or_zero : Data → ℤ
integer_or_zero d = unwrap_or (integer d) (pos 0)

-- the integer at a key, and 0 if it is absent
abbrev pub integer_at : List ℕ → Data → ℤ
integer_at key d = unwrap_or (option_and_then integer (get key d)) (pos 0)

abbrev pub second_integer : List Data → ℤ
second_integer (x ∷ y ∷ []) = integer_or_zero y
second_integer _ = pos 0
