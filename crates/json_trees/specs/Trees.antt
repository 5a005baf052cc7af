-- Looking into a JSON tree.
--
--   listed            the items of an array, as a list
--   parts             the items of an array, and none of anything else
--   keys_of           the keys of the members, as a list
--   keys              the keys of an object, and none of anything else
--   passes            a part is there and passes a test
--   passes_if_there   a part passes a test, if it is there
--   is_number         a number of any kind
--   is_text           a text
--   is_array_of       an array whose items all pass a test
--   are_two           two items that pass a test each
--   is_pair_of        an array of two such items
--   integer           the integer that a number is
--   text_of           the text
--   parts_at          the items of the array at a key
--   first_parts       the items of the first item
--   pair_members      the members of the coalition of a pair of a coalition and a number
--   second_passes     the second of two items passes a test
--   is_member         a number or a text
--   is_numeric        a number, or a text if texts are allowed
use Rattle.std.specs.Prelude.{◌&&◌, ◌||◌, ℕ, ℤ, List, [], ◌∷◌, Bool, true, false}
use Rattle.std.specs.Prelude.{Option, Some}
use Rattle.std.specs.Prelude.{None, is_some, option_map, option_and_then, unwrap_or}
use Rattle.std.specs.List.{list_all}
use Rattle.serde_json.specs.Data.{Data, Items, no_items, item, Members, no_members, member}
use Rattle.serde_json.specs.Find.{get, as_number, as_i64, as_str, as_array, as_object}

abbrev pub listed : Items → List Data
listed no_items = []
listed (item d ds) = d ∷ listed ds

abbrev pub parts : Data → List Data
parts d = unwrap_or (option_map listed (as_array d)) []

abbrev pub keys_of : Members → List (List ℕ)
keys_of no_members = []
keys_of (member k d ms) = k ∷ keys_of ms

abbrev pub keys : Data → List (List ℕ)
keys d = unwrap_or (option_map keys_of (as_object d)) []

abbrev pub passes : (Data → Bool) → Option Data → Bool
passes test None = false
passes test (Some d) = test d

abbrev pub passes_if_there : (Data → Bool) → Option Data → Bool
passes_if_there test None = true
passes_if_there test (Some d) = test d

abbrev pub is_number : Data → Bool
is_number d = is_some (as_number d)

abbrev pub is_text : Data → Bool
is_text d = is_some (as_str d)

abbrev pub is_array_of : (Data → Bool) → Data → Bool
is_array_of test d = is_some (as_array d) && list_all test (parts d)

-- two items, of which the first passes one test and the second another
abbrev pub are_two : (Data → Bool) → (Data → Bool) → List Data → Bool
are_two first second (x ∷ y ∷ []) = first x && second y
are_two first second _ = false

-- an array of two items, of which the first passes one test and the second another
abbrev pub is_pair_of : (Data → Bool) → (Data → Bool) → Data → Bool
is_pair_of first second d = are_two first second (parts d)

-- the integer that a number is, if it is one of 64 bits written as such
abbrev pub integer : Data → Option ℤ
integer d = option_and_then as_i64 (as_number d)

-- the text, and the empty one if there is none
abbrev pub text_of : Data → List ℕ
text_of d = unwrap_or (as_str d) []

-- the items of the array at a key, and none if it is absent
abbrev pub parts_at : List ℕ → Data → List Data
parts_at key d = unwrap_or (option_map parts (get key d)) []

abbrev pub first_parts : List Data → List Data
first_parts [] = []
first_parts (x ∷ xs) = parts x

abbrev pub pair_members : Data → List Data
pair_members pair = first_parts (parts pair)

abbrev pub second_passes : (Data → Bool) → List Data → Bool
second_passes test (x ∷ y ∷ []) = test y
second_passes test _ = false

abbrev pub is_member : Data → Bool
is_member d = is_number d || is_text d

-- the kind of a number that may be written as a text too, if texts are allowed
abbrev pub is_numeric : Bool → Data → Bool
is_numeric texts d = is_number d || (texts && is_text d)
