-- How long the texts of values are.
use Rattle.std.proofs.Common.{ℕ, suc, ◌+◌, ◌*◌, ◌^◌, ◌<◌, ◌≤◌, Bool, true, false}
use Rattle.std.proofs.Common.{List, [], ◌∷◌, ◌++◌}
use Rattle.std.proofs.Common.{length, map, ℤ, pos, negsuc, unsigned_abs, arith, length-append}
use Rattle.std.specs.Fmt.{signed_decimal}
use Rattle.std.specs.List.{AllByRecursion}
use Rattle.std.proofs.lemmas.Fmt.{length-decimal-le_wide}
use Rattle.json.specs.Print.{escape_byte, escape, quoted}
use Rattle.serde_json.specs.Data.{Data, array, Items, no_items, item, Members, member}
use Rattle.serde_json.specs.View.{items_of}
use Rattle.serde_json.specs.Written.{compact_text, items_text, members_text, comma_if}
use Rattle.json_texts.proofs.Escaped.{any_byte}

-- ---- texts

escape_length : (s : List ℕ) → length (escape s) ≤ 6 * length s
escape_length [] = omega arith
escape_length (x ∷ s) = omega (arith, length-append (escape_byte x) (escape s), any_byte x, escape_length s)

pub quoted_length : (s : List ℕ) → length (quoted s) ≤ 6 * length s + 2
quoted_length s = omega (arith, length-append (escape s) (34 ∷ []), escape_length s)

-- ---- lists and objects

comma_length : (later : Bool) → length (comma_if later) ≤ 1
comma_length true = omega arith
comma_length false = omega arith

item_length : (later : Bool) (d : Data) (ds : Items)
    → length (items_text later (item d ds)) ≤ 1 + length (compact_text d) + length (items_text true ds)
item_length later d ds =
    omega (
      arith,
      comma_length later,
      length-append (comma_if later) (compact_text d ++ items_text true ds),
      length-append (compact_text d) (items_text true ds),
    )

pub member_length : (later : Bool) (k : List ℕ) (d : Data) (ms : Members)
    → length (members_text later (member k d ms))
    ≤ 6 * length k + length (compact_text d) + length (members_text true ms) + 4
member_length later k d ms =
    omega (
      arith,
      comma_length later,
      quoted_length k,
      length-append (comma_if later) (quoted k ++ 58 ∷ (compact_text d ++ members_text true ms)),
      length-append (quoted k) (58 ∷ (compact_text d ++ members_text true ms)),
      length-append (compact_text d) (members_text true ms),
    )

items_length : {X : Type 0} (f : X → Data) (b : ℕ) (xs : List X) (later : Bool)
    → AllByRecursion (λ x. length (compact_text (f x)) ≤ b) xs
    → length (items_text later (items_of (map f xs))) ≤ length xs * (b + 1) + 1
items_length f b [] later h = omega arith
items_length f b (x ∷ xs) later h =
    omega (arith, h.0, item_length later (f x) (items_of (map f xs)), items_length f b xs true h.1)

-- an array whose items have texts of at most b bytes
pub array_length : {X : Type 0} (f : X → Data) (b : ℕ) (xs : List X)
    → AllByRecursion (λ x. length (compact_text (f x)) ≤ b) xs
    → length (compact_text (array (items_of (map f xs)))) ≤ length xs * (b + 1) + 2
array_length f b xs h = omega (arith, items_length f b xs false h)

pub pair_length : (d e : Data)
    → length (compact_text (array (item d (item e no_items))))
    ≤ length (compact_text d) + length (compact_text e) + 4
pair_length d e = omega (arith, item_length false d (item e no_items), item_length true e no_items)

-- ---- numbers

pub signed_length : (k : ℕ) (z : ℤ) → 0 < k → unsigned_abs z < 10 ^ k → unsigned_abs z < 10 ^ 64
    → length (signed_decimal z) ≤ k + 1
signed_length k (pos n) p h w = omega (arith, length-decimal-le_wide k n p h w)
signed_length k (negsuc n) p h w = omega (arith, length-decimal-le_wide k (suc n) p h w)
