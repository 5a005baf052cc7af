-- JSON trees that hold no number but integers, and what is kept when a tree is written and read.
--
--   IsExactNumber       an integer of 64 bits, in its one form
--   AllAbove            each key comes after another
--   IsExact             a tree with no number but integers, whose keys ascend; AreExact and HasExact of the parts of
--                       arrays and objects
--   IsOrdered           the same with floats too; AreOrdered and HasOrdered of the parts of arrays and objects
--   WrittenIsReadBack   what is written for an exact tree is read as that tree
--   ReadIsOrdered       a tree that was read is ordered
--   OrderedIsExact      an ordered tree without a float is exact
--   WrittenIsNoLonger   the text that is written for a tree has no more bytes than the text that it was read from
--   IsPartOf            ordered, less deep than the whole, and written in fewer bytes
--   MembersKeep         a member of an ordered object is such a part
use Rattle.std.specs.Prelude.{◌≡◌, ◌<◌, ◌≤◌, ◌^◌, ℕ, pos, negsuc, List, length, false}
use Rattle.std.specs.Prelude.{Some}
use Rattle.std.specs.Ordering.{nat_cmp}
use Rattle.std.specs.declared.cmp.Ordering.TheVariants.{Less}
use Rattle.std.specs.Cmp.Lexicographic.{slice_cmp}
use Rattle.serde_json.specs.Data.{Num, unsigned, negative, float, Data, null, boolean, number, string, array}
use Rattle.serde_json.specs.Data.{object, Items, no_items, item, Members, no_members, member, depth}
use Rattle.serde_json.specs.Find.{get, is_float}
use Rattle.serde_json.specs.Read.{read, max_depth}
use Rattle.serde_json.specs.Written.{compact_text, has_float}

abbrev pub IsExactNumber : Num → Type 0
IsExactNumber (unsigned n) = n < 2 ^ 64
IsExactNumber (negative (pos n)) = ⊥
IsExactNumber (negative (negsuc n)) = n < 2 ^ 63
IsExactNumber (float x) = ⊥

-- each key comes after k, byte by byte
abbrev pub AllAbove : List ℕ → Members → Type 0
AllAbove k no_members = Unit {0}
AllAbove k (member l d ms) = (slice_cmp nat_cmp k l ≡ Less) × AllAbove k ms

-- no number but integers of 64 bits, and in each object the keys ascend, so none comes twice
abbrev mutual
  pub IsExact : Data → Type 0
  IsExact null = Unit {0}
  IsExact (boolean b) = Unit {0}
  IsExact (number n) = IsExactNumber n
  IsExact (string s) = Unit {0}
  IsExact (array ds) = AreExact ds
  IsExact (object ms) = HasExact ms

  pub AreExact : Items → Type 0
  AreExact no_items = Unit {0}
  AreExact (item d ds) = IsExact d × AreExact ds

  pub HasExact : Members → Type 0
  HasExact no_members = Unit {0}
  HasExact (member k d ms) = AllAbove k ms × IsExact d × HasExact ms

-- as an exact tree, but with floats too
abbrev mutual
  pub IsOrdered : Data → Type 0
  IsOrdered null = Unit {0}
  IsOrdered (boolean b) = Unit {0}
  IsOrdered (number n) = is_float n ≡ false → IsExactNumber n
  IsOrdered (string s) = Unit {0}
  IsOrdered (array ds) = AreOrdered ds
  IsOrdered (object ms) = HasOrdered ms

  pub AreOrdered : Items → Type 0
  AreOrdered no_items = Unit {0}
  AreOrdered (item d ds) = IsOrdered d × AreOrdered ds

  pub HasOrdered : Members → Type 0
  HasOrdered no_members = Unit {0}
  HasOrdered (member k d ms) = AllAbove k ms × IsOrdered d × HasOrdered ms

-- what is written for an exact tree, nested no deeper than is read, is read as that tree
abbrev pub WrittenIsReadBack : Type 0
WrittenIsReadBack = (d : Data) → IsExact d → depth d ≤ max_depth → read (compact_text d) ≡ Some d

-- a tree that was read is ordered, and nested no deeper than is read
abbrev pub ReadIsOrdered : Type 0
ReadIsOrdered = (text : List ℕ) (d : Data) → read text ≡ Some d → IsOrdered d × (depth d ≤ max_depth)

abbrev pub OrderedIsExact : Type 0
OrderedIsExact = (d : Data) → IsOrdered d → has_float d ≡ false → IsExact d

-- the compact text of a tree that was read has no more bytes than the text that it was read from; a float counts as
-- no byte
abbrev pub WrittenIsNoLonger : Type 0
WrittenIsNoLonger = (text : List ℕ) (d : Data) → read text ≡ Some d → length (compact_text d) ≤ length text

-- d is ordered, nested less deep than e, and written in fewer bytes
pub record IsPartOf (d e : Data) : Type 0 where
  pub ordered : IsOrdered d
  pub shallower : depth d < depth e
  pub shorter : length (compact_text d) < length (compact_text e)

-- a member of an ordered object is ordered too, nested less deep, and written in fewer bytes
abbrev pub MembersKeep : Type 0
MembersKeep = (k : List ℕ) (d e : Data) → IsOrdered e → get k e ≡ Some d → IsPartOf d e
