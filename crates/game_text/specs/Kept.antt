-- What holds of the tree of the game that a document keeps.
--
--   has_integers            each number is an integer that `as_i64` gives
--   items_have_integers     the same of the items of an array
--   members_have_integers   the same of the members of an object
--   IsKept                  no other numbers, nested at most 8 deep, and written in no more bytes than were read
use Rattle.std.specs.Prelude.{◌≡◌, ◌≤◌, ◌&&◌, ℕ, List, Bool, length, true, false, is_some}
use Rattle.serde_json.specs.Data.{Data, null, boolean, number, string, array, object, Items}
use Rattle.serde_json.specs.Data.{no_items, item, Members, no_members, member, depth}
use Rattle.serde_json.specs.Find.{as_i64}
use Rattle.serde_json.specs.Written.{compact_text, has_float}
use Rattle.json_texts.specs.Exact.{IsExact}

-- each number is an integer from -2^63, below 2^63, as `as_i64` gives it
abbrev mutual
  pub has_integers : Data → Bool
  has_integers null = true
  has_integers (boolean b) = true
  has_integers (number n) = is_some (as_i64 n)
  has_integers (string s) = true
  has_integers (array ds) = items_have_integers ds
  has_integers (object ms) = members_have_integers ms

  pub items_have_integers : Items → Bool
  items_have_integers no_items = true
  items_have_integers (item d ds) = has_integers d && items_have_integers ds

  pub members_have_integers : Members → Bool
  members_have_integers no_members = true
  members_have_integers (member k d ms) = has_integers d && members_have_integers ms

-- no number but integers, nested at most 8 deep, and written in no more bytes than were read
pub record IsKept (bytes : List ℕ) (d : Data) : Type 0 where
  pub exact : IsExact d
  pub whole : has_float d ≡ false
  pub integers : has_integers d ≡ true
  pub shallow : depth d ≤ 8
  pub shorter : length (compact_text d) ≤ length bytes
