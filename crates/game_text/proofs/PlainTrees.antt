-- Trees without floats that are nested at most so deep, built up from their parts.
use Rattle.std.proofs.Common.{◌≡◌, ℕ, ◌+◌, ◌≤◌, List, [], ◌∷◌, Bool, true, false}
use Rattle.std.proofs.Common.{◌||◌, Some, None, Ordering}
use Rattle.std.proofs.Common.{Less, Equal, Greater, is_some, refl, sym, ap, ap₂, ◌∙◌, arith}
use Rattle.std.specs.List.{list_all, AllByRecursion}
use Rattle.std.specs.Ordering.{nat_cmp, match_ordering, ordering_reverse}
use Rattle.std.specs.Cmp.Lexicographic.{slice_cmp}
use Rattle.std.specs.Str.{bytes_eq}
use Rattle.std.proofs.lemmas.Bool.{false≢true, and_parts}
use Rattle.std.proofs.lemmas.Cmp.{nat_list_cmp_total}
use Rattle.std.proofs.lemmas.Map.Lookups.{exact_bytes}
use Rattle.std.proofs.lemmas.Slice.Eq.{bytes_eq-Decides}
use Rattle.serde_json.specs.Data.{Num, unsigned, negative, float, Data, null, boolean, number}
use Rattle.serde_json.specs.Data.{string, array, object, Items, no_items, item, Members, no_members}
use Rattle.serde_json.specs.Data.{member, depth, items_depth, members_depth}
use Rattle.serde_json.specs.Find.{get, get_member, as_i64, as_array, as_object}
use Rattle.serde_json.specs.Written.{has_float, items_have_float, members_have_float}
use Rattle.definitions.proofs.Cases.{and_both}
use Rattle.game_text.specs.Kept.{has_integers, items_have_integers, members_have_integers}
use Rattle.json_texts.specs.Exact.{IsOrdered, HasOrdered, AllAbove}
use Rattle.json_trees.specs.Keys.{is_among, has_only_keys}
use Rattle.json_trees.specs.Trees.{listed, parts, keys, keys_of, is_text, integer}

-- no float, and nested at most m deep
pub record IsPlain (m : ℕ) (d : Data) : Type 0 where
  pub whole : has_float d ≡ false
  pub integers : has_integers d ≡ true
  pub shallow : depth d ≤ m

pub plain_text : (m : ℕ) (d : Data) → is_text d ≡ true → IsPlain m d
plain_text m null h = absurd (false≢true h)
plain_text m (boolean b) h = absurd (false≢true h)
plain_text m (number n) h = absurd (false≢true h)
plain_text m (string s) h = record { whole = refl; integers = refl; shallow = omega arith }
plain_text m (array ds) h = absurd (false≢true h)
plain_text m (object ms) h = absurd (false≢true h)

plain_number : (m : ℕ) (n : Num) → is_some (as_i64 n) ≡ true → IsPlain m (number n)
plain_number m (unsigned n) h = record { whole = refl; integers = h; shallow = omega arith }
plain_number m (negative z) h = record { whole = refl; integers = h; shallow = omega arith }
plain_number m (float x) h = absurd (false≢true h)

pub plain_integer : (m : ℕ) (d : Data) → is_some (integer d) ≡ true → IsPlain m d
plain_integer m null h = absurd (false≢true h)
plain_integer m (boolean b) h = absurd (false≢true h)
plain_integer m (number n) h = plain_number m n h
plain_integer m (string s) h = absurd (false≢true h)
plain_integer m (array ds) h = absurd (false≢true h)
plain_integer m (object ms) h = absurd (false≢true h)

-- ---- arrays

both_false : (a b : Bool) → a ≡ false → b ≡ false → (a || b) ≡ false
both_false a b p q = ap₂ (λ x y. x || y) p q

plain_items : (m : ℕ) (ds : Items) → AllByRecursion (IsPlain m) (listed ds)
    → (items_have_float ds ≡ false) × (items_have_integers ds ≡ true) × (items_depth ds ≤ m)
plain_items m no_items h = (refl, refl, omega arith)
plain_items m (item d ds) h =
    let rest = plain_items m ds h.1 in (
      both_false (has_float d) (items_have_float ds) h.0.whole rest.0,
      and_both (has_integers d) (items_have_integers ds) h.0.integers rest.1,
      omega (arith, h.0.shallow, rest.2),
    )

pub plain_array : (m : ℕ) (d : Data) → is_some (as_array d) ≡ true → AllByRecursion (IsPlain m) (parts d)
    → IsPlain (m + 1) d
plain_array m null h k = absurd (false≢true h)
plain_array m (boolean b) h k = absurd (false≢true h)
plain_array m (number n) h k = absurd (false≢true h)
plain_array m (string s) h k = absurd (false≢true h)
plain_array m (array ds) h k =
    let p = plain_items m ds k in record { whole = p.0; integers = p.1; shallow = omega (arith, p.2) }
plain_array m (object ms) h k = absurd (false≢true h)

pub all_plain : (m : ℕ) (test : Data → Bool) → ((d : Data) → test d ≡ true → IsPlain m d) → (ds : List Data)
    → list_all test ds ≡ true → AllByRecursion (IsPlain m) ds
all_plain m test good [] h = tt
all_plain m test good (d ∷ ds) h =
    let p = and_parts (test d) (list_all test ds) h in (good d p.0, all_plain m test good ds p.1)

-- ---- objects

self_equal : (o : Ordering) → o ≡ ordering_reverse o → o ≡ Equal
self_equal Less e = absurd (cc e)
self_equal Equal e = refl
self_equal Greater e = absurd (cc e)

same_key : (k : List ℕ) → slice_cmp nat_cmp k k ≡ Equal
same_key k = self_equal (slice_cmp nat_cmp k k) (nat_list_cmp_total.antisymm k k)

here : (k : List ℕ) (d : Data) (ms : Members) → get_member k (member k d ms) ≡ Some d
here k d ms = ap (λ o. match_ordering o (get_member k ms) (Some d) (get_member k ms)) (same_key k)

none_above : (k : List ℕ) (ms : Members) → AllAbove k ms → get_member k ms ≡ None
none_above k no_members h = refl
none_above k (member l d ms) h =
    ap (λ o. match_ordering o (get_member k ms) (Some d) (get_member k ms)) h.0 ∙ none_above k ms h.1

later_by : (o : Ordering) (k l : List ℕ) (e d : Data) (ms : Members) → slice_cmp nat_cmp k l ≡ o → AllAbove l ms
    → get_member k ms ≡ Some d
    → match_ordering o (get_member k ms) (Some e) (get_member k ms) ≡ Some d
later_by Less k l e d ms c h g = g
later_by Equal k l e d ms c h g =
    let same : k ≡ l = exact_bytes k l c in
    let none : None ≡ Some d = sym (none_above l ms h) ∙ ap (λ q. get_member q ms) (sym same) ∙ g in
    absurd (cc none)
later_by Greater k l e d ms c h g = g

later : (k l : List ℕ) (e d : Data) (ms : Members) → AllAbove l ms → get_member k ms ≡ Some d
    → get_member k (member l e ms) ≡ Some d
later k l e d ms h g = later_by (slice_cmp nat_cmp k l) k l e d ms refl h g

plain_members : (m : ℕ) (test : List ℕ → Bool) (ms : Members) → HasOrdered ms → list_all test (keys_of ms) ≡ true
    → ((k : List ℕ) (d : Data) → test k ≡ true → get_member k ms ≡ Some d → IsPlain m d)
    → (members_have_float ms ≡ false) × (members_have_integers ms ≡ true) × (members_depth ms ≤ m)
plain_members m test no_members o h good = (refl, refl, omega arith)
plain_members m test (member l e ms) o h good =
    let p = and_parts (test l) (list_all test (keys_of ms)) h in
    let first = good l e p.0 (here l e ms) in
    let rest = plain_members m test ms o.2 p.1 (λ k d t g. good k d t (later k l e d ms o.0 g)) in (
      both_false (has_float e) (members_have_float ms) first.whole rest.0,
      and_both (has_integers e) (members_have_integers ms) first.integers rest.1,
      omega (arith, first.shallow, rest.2),
    )

-- an object whose keys are known and whose members are plain
plain_object : (m : ℕ) (test : List ℕ → Bool) (d : Data) → IsOrdered d → is_some (as_object d) ≡ true
    → list_all test (keys d) ≡ true
    → ((k : List ℕ) (e : Data) → test k ≡ true → get k d ≡ Some e → IsPlain m e) → IsPlain (m + 1) d
plain_object m test null o b h good = absurd (false≢true b)
plain_object m test (boolean x) o b h good = absurd (false≢true b)
plain_object m test (number n) o b h good = absurd (false≢true b)
plain_object m test (string s) o b h good = absurd (false≢true b)
plain_object m test (array ds) o b h good = absurd (false≢true b)
plain_object m test (object ms) o b h good =
    let p = plain_members m test ms o h good in record { whole = p.0; integers = p.1; shallow = omega (arith, p.2) }

pub has_members : (k : List ℕ) (d e : Data) → get k d ≡ Some e → is_some (as_object d) ≡ true
has_members k null e h = absurd (cc h)
has_members k (boolean b) e h = absurd (cc h)
has_members k (number n) e h = absurd (cc h)
has_members k (string s) e h = absurd (cc h)
has_members k (array ds) e h = absurd (cc h)
has_members k (object ms) e h = refl

-- ---- known keys

-- what stands at the key is plain
abbrev pub IsPlainAt : ℕ → List ℕ → Data → Type 0
IsPlainAt m key d = (e : Data) → get key d ≡ Some e → IsPlain m e

at_key : (m : ℕ) (key k : List ℕ) (d e : Data) → IsPlainAt m key d → bytes_eq k key ≡ true → get k d ≡ Some e
    → IsPlain m e
at_key m key k d e good same g = good e (ap (λ q. get q d) (sym ((bytes_eq-Decides k key).0 same)) ∙ g)

pub either : {P : Type 0} (a b : Bool) → (a || b) ≡ true → (a ≡ true → P) → (b ≡ true → P) → P
either true b h f g = f refl
either false b h f g = g h

by_word : (m : ℕ) (words : List (List ℕ)) (k : List ℕ) (d e : Data) → AllByRecursion (λ w. IsPlainAt m w d) words
    → is_among words k ≡ true → get k d ≡ Some e → IsPlain m e
by_word m [] k d e good t g = absurd (false≢true t)
by_word m (w ∷ words) k d e good t g =
    either (bytes_eq k w) (is_among words k) t (λ h. at_key m w k d e good.0 h g)
    (λ h. by_word m words k d e good.1 h g)

-- an object whose keys are among words at each of which stands what is plain
pub plain_known : (m : ℕ) (words : List (List ℕ)) (d : Data) → IsOrdered d → is_some (as_object d) ≡ true
    → has_only_keys words d ≡ true → AllByRecursion (λ w. IsPlainAt m w d) words → IsPlain (m + 1) d
plain_known m words d o b h good =
    plain_object m (is_among words) d o b h (λ k e t g. by_word m words k d e good t g)
