-- The values that a class gathers are all the numbers of its game, since it has no other keys.
use Rattle.std.proofs.Common.{◌≡◌, ◌&&◌, ◌||◌, ℕ, List, [], ◌∷◌, ◌++◌, codes, Bool, true, false}
use Rattle.std.proofs.Common.{Option, Some, None, Ordering, Less, Equal, Greater, is_none, is_some, option_map}
use Rattle.std.proofs.Common.{nat_le, refl, sym, ap, ap₂, ◌∙◌, arith}
use Rattle.std.specs.Prelude.{unwrap_or}
use Rattle.std.specs.List.{list_all}
use Rattle.std.specs.Ordering.{nat_cmp, match_ordering}
use Rattle.std.specs.Cmp.Lexicographic.{slice_cmp}
use Rattle.std.proofs.lemmas.Bool.{false≢true, and_parts}
use Rattle.std.proofs.lemmas.List.{append-nil}
use Rattle.std.proofs.lemmas.List.Folds.{list_all-append}
use Rattle.std.proofs.lemmas.Map.Lookups.{exact_bytes}
use Rattle.serde_json.specs.Data.{Data, null, boolean, number, string, array, object, Members, no_members, member}
use Rattle.serde_json.specs.Find.{get, get_member, as_array}
use Rattle.json_trees.specs.Keys.{is_among, has_only_keys}
use Rattle.json_trees.specs.Trees.{parts, parts_at, keys_of, passes, passes_if_there, is_array_of, is_number}
use Rattle.json_trees.specs.Trees.{is_numeric, second_passes, are_two, is_member}
use Rattle.document_parts.specs.CommonMultiples.{lcm}
use Rattle.document_parts.specs.Version.{has_texts}
use Rattle.document_parts.specs.Scales.{if_there, second_part, pair_number, all_parts, table_numbers_in}
use Rattle.document_parts.specs.Scales.{matrix_numbers_in, game_numbers, scale_of}
use Rattle.document_parts.specs.Sizes.{is_cost}
use Rattle.document_parts.specs.Numbers.{common_scale, are_worths, are_costs}
use Rattle.document_parts.proofs.CommonScales.{den, no_text_den, with_one}
use Rattle.game_text.specs.Classes.{has_numbers_as}
use Rattle.game_text.specs.Classes.{own_values_as, are_numbers_as}
use Rattle.game_text.specs.Classes.AirportClass.{airport_keys, is_airport_shaped, airport_values}
use Rattle.game_text.specs.Classes.BankruptcyClass.{bankruptcy_keys, is_bankruptcy_shaped, bankruptcy_values}
use Rattle.game_text.specs.Classes.MatrixClass.{matrix_keys, is_matrix_shaped}
use Rattle.game_text.specs.Classes.TableClass.{table_keys, lists_worths, lists_coalitions, is_table_shaped}
use Rattle.game_text.specs.Classes.TableClass.{is_sparse_pair, is_worth}
use Rattle.game_text.specs.declared.classes.Class.{Class}
use Rattle.game_text.specs.declared.classes.Class.TheVariants.{Table, Bankruptcy}

-- ---- a key that is none of those of an object

absent_by : (o : Ordering) (words : List (List ℕ)) (k l : List ℕ) (e : Data) (rest : Option Data)
    → slice_cmp nat_cmp k l ≡ o → is_among words k ≡ false → is_among words l ≡ true → rest ≡ None
    → match_ordering o rest (Some e) rest ≡ None
absent_by Less words k l e rest c n m r = r
absent_by Equal words k l e rest c n m r =
    absurd (false≢true (sym n ∙ ap (is_among words) (exact_bytes k l c) ∙ m))
absent_by Greater words k l e rest c n m r = r

absent_member : (words : List (List ℕ)) (k : List ℕ) (ms : Members) → is_among words k ≡ false
    → list_all (is_among words) (keys_of ms) ≡ true → get_member k ms ≡ None
absent_member words k no_members n h = refl
absent_member words k (member l e ms) n h =
    let p = and_parts (is_among words l) (list_all (is_among words) (keys_of ms)) h in
    absent_by (slice_cmp nat_cmp k l) words k l e (get_member k ms) refl n p.0 (absent_member words k ms n p.1)

pub absent : (words : List (List ℕ)) (d : Data) → has_only_keys words d ≡ true → (k : List ℕ)
    → is_among words k ≡ false → get k d ≡ None
absent words null h k n = refl
absent words (boolean b) h k n = refl
absent words (number z) h k n = refl
absent words (string s) h k n = refl
absent words (array ds) h k n = refl
absent words (object ms) h k n = absent_member words k ms n h

-- ---- the numbers of a game

abbrev listed_in : Option Data → List Data
listed_in o = unwrap_or (option_map parts o) []

pub airport_numbers_in : (game : Data) → is_airport_shaped game ≡ true → game_numbers game ≡ airport_values game
airport_numbers_in game h =
    let none = absent airport_keys game (and_parts (has_only_keys airport_keys game) _ h).0 in
    simp (none, append-nil)

pub bankruptcy_numbers_in : (game : Data) → is_bankruptcy_shaped game ≡ true
    → game_numbers game ≡ bankruptcy_values game
bankruptcy_numbers_in game h =
    let front =
    and_parts
    (has_only_keys bankruptcy_keys game && passes (is_numeric (has_texts game)) (get (codes "estate") game))
    (passes (is_array_of (is_numeric (has_texts game))) (get (codes "claims") game)) h in
    let none = absent bankruptcy_keys game (and_parts (has_only_keys bankruptcy_keys game) _ front.0).0 in
    simp (none, append-nil)

pub matrix_numbers_are : (game : Data) → is_matrix_shaped game ≡ true → game_numbers game ≡ matrix_numbers_in game
matrix_numbers_are game h =
    let none = absent matrix_keys game (and_parts (has_only_keys matrix_keys game) _ h).0 in
    simp (none, append-nil)

pub table_numbers_are : (game : Data) → is_table_shaped game ≡ true → game_numbers game ≡ table_numbers_in game
table_numbers_are game h =
    let front =
    and_parts (has_only_keys table_keys game && passes is_number (get (codes "players") game))
    (lists_worths game || lists_coalitions game) h in
    let none = absent table_keys game (and_parts (has_only_keys table_keys game) _ front.0).0 in
    simp (none, append-nil)

-- integers are over the scale 1
number_den : (d : Data) → is_number d ≡ true → den d ≡ 1
number_den null h = no_text_den null refl
number_den (boolean b) h = no_text_den (boolean b) refl
number_den (number z) h = no_text_den (number z) refl
number_den (string s) h = absurd (false≢true h)
number_den (array ds) h = no_text_den (array ds) refl
number_den (object ms) h = no_text_den (object ms) refl

pub integers_scale : (ds : List Data) → list_all is_number ds ≡ true → common_scale ds ≡ 1
integers_scale [] h = refl
integers_scale (d ∷ ds) h =
    let p = and_parts (is_number d) (list_all is_number ds) h in
    ap₂ lcm (number_den d p.0) (integers_scale ds p.1) ∙ with_one 1 (omega arith)

-- ---- tests, over the lists of values

-- the items of an array at a key
pub items_pass : (test : Data → Bool) (o : Option Data) → passes (is_array_of test) o ≡ true
    → list_all test (listed_in o) ≡ true
items_pass test None h = absurd (false≢true h)
items_pass test (Some d) h = (and_parts (is_some (as_array d)) (list_all test (parts d)) h).1

pub one_in_front : (shape test : Data → Bool) (o : Option Data) (ds : List Data) → passes shape o ≡ true
    → (passes test o && list_all test ds) ≡ list_all test (if_there o ++ ds)
one_in_front shape test None ds h = absurd (false≢true h)
one_in_front shape test (Some d) ds h = refl

row_by : (b : Bool) (x y : Bool) → b ≡ true → ((b && x) && y) ≡ (x && y)
row_by true x y h = refl
row_by false x y h = absurd (false≢true h)

rows_pass : (shape test : Data → Bool) (ds : List Data) → list_all (is_array_of shape) ds ≡ true
    → list_all (is_array_of test) ds ≡ list_all test (all_parts parts ds)
rows_pass shape test [] h = refl
rows_pass shape test (d ∷ ds) h =
    let p = and_parts (is_array_of shape d) (list_all (is_array_of shape) ds) h in
    let q = and_parts (is_some (as_array d)) (list_all shape (parts d)) p.0 in
    row_by (is_some (as_array d)) (list_all test (parts d)) (list_all (is_array_of test) ds) q.0
    ∙ ap (λ b. list_all test (parts d) && b) (rows_pass shape test ds p.1)
    ∙ sym (list_all-append test (parts d) (all_parts parts ds))

and_true : (b : Bool) → b ≡ (b && true)
and_true true = refl
and_true false = refl

second_pass : (first second test : Data → Bool) (ps : List Data) → are_two first second ps ≡ true
    → second_passes test ps ≡ list_all test (second_part ps)
second_pass first second test [] h = absurd (false≢true h)
second_pass first second test (x ∷ []) h = absurd (false≢true h)
second_pass first second test (x ∷ y ∷ []) h = and_true (test y)
second_pass first second test (x ∷ y ∷ z ∷ ps) h = absurd (false≢true h)

pairs_pass : (t : Bool) (test : Data → Bool) (ds : List Data) → list_all (is_sparse_pair t) ds ≡ true
    → list_all (λ d. second_passes test (parts d)) ds ≡ list_all test (all_parts pair_number ds)
pairs_pass t test [] h = refl
pairs_pass t test (d ∷ ds) h =
    let p = and_parts (is_sparse_pair t d) (list_all (is_sparse_pair t) ds) h in
    ap₂ (λ a b. a && b) (second_pass (is_array_of is_member) (is_numeric t) test (parts d) p.0)
    (pairs_pass t test ds p.1)
    ∙ sym (list_all-append test (pair_number d) (all_parts pair_number ds))

there_passes : (test : Data → Bool) (o : Option Data) → passes_if_there test o ≡ list_all test (if_there o)
there_passes test None = refl
there_passes test (Some d) = and_true (test d)

three : (a b c : Bool) → ((a && b) && c) ≡ (a && (b && c))
three true b c = refl
three false b c = refl

-- a table lists worths, or else pairs
pub record ListsPairs (game : Data) : Type 0 where
  pub unlisted : get (codes "worths") game ≡ None
  pub pairs : list_all (is_sparse_pair (has_texts game)) (parts_at (codes "sparse") game) ≡ true

no_listing : (o : Option Data) → is_none o ≡ true → o ≡ None
no_listing None h = refl
no_listing (Some d) h = absurd (false≢true h)

pub pairs_of : (game : Data) → lists_coalitions game ≡ true → ListsPairs game
pairs_of game h =
    let front =
    and_parts
    (passes (is_array_of (is_sparse_pair (has_texts game))) (get (codes "sparse") game)
    && is_none (get (codes "worths") game))
    (passes_if_there (is_numeric (has_texts game)) (get (codes "default") game))
    h in
    let both =
    and_parts (passes (is_array_of (is_sparse_pair (has_texts game))) (get (codes "sparse") game))
    (is_none (get (codes "worths") game)) front.0 in
    record {
      unlisted = no_listing (get (codes "worths") game) both.1;
      pairs = items_pass (is_sparse_pair (has_texts game)) (get (codes "sparse") game) both.0;
    }

pub record ListsWorths (game : Data) : Type 0 where
  pub unpaired : get (codes "sparse") game ≡ None
  pub no_other : get (codes "default") game ≡ None

pub worths_listed : (game : Data) → lists_worths game ≡ true → ListsWorths game
worths_listed game h =
    let front =
    and_parts
    (passes (is_array_of (is_numeric (has_texts game))) (get (codes "worths") game)
    && is_none (get (codes "sparse") game)) (is_none (get (codes "default") game)) h in
    let both =
    and_parts (passes (is_array_of (is_numeric (has_texts game))) (get (codes "worths") game))
    (is_none (get (codes "sparse") game)) front.0 in
    record {
      unpaired = no_listing (get (codes "sparse") game) both.1;
      no_other = no_listing (get (codes "default") game) front.1;
    }

pub table_form : (game : Data) → is_table_shaped game ≡ true → (lists_worths game || lists_coalitions game) ≡ true
table_form game h =
    (and_parts (has_only_keys table_keys game && passes is_number (get (codes "players") game))
    (lists_worths game || lists_coalitions game) h).1

pairs_by : (game : Data) (a b : Bool) → lists_worths game ≡ a → lists_coalitions game ≡ b → (a || b) ≡ true
    → list_all (is_sparse_pair (has_texts game)) (parts_at (codes "sparse") game) ≡ true
pairs_by game true b e f h =
    ap (λ o. list_all (is_sparse_pair (has_texts game)) (listed_in o)) (worths_listed game e).unpaired
pairs_by game false true e f h = (pairs_of game f).pairs
pairs_by game false false e f h = absurd (false≢true h)

-- ---- each class

module _ (k : ℕ) (game : Data) where
  pub bankruptcy_tests : is_bankruptcy_shaped game ≡ true
      → has_numbers_as k (Some Bankruptcy) game ≡ list_all (is_cost k) (bankruptcy_values game)
  bankruptcy_tests h =
      let front =
      and_parts
      (has_only_keys bankruptcy_keys game && passes (is_numeric (has_texts game)) (get (codes "estate") game))
      (passes (is_array_of (is_numeric (has_texts game))) (get (codes "claims") game)) h in
      let estate =
      (and_parts (has_only_keys bankruptcy_keys game)
      (passes (is_numeric (has_texts game)) (get (codes "estate") game)) front.0).1 in
      one_in_front (is_numeric (has_texts game)) (is_cost k) (get (codes "estate") game)
      (parts_at (codes "claims") game) estate

  pub matrix_tests : is_matrix_shaped game ≡ true
      → list_all (is_array_of (is_cost k)) (parts_at (codes "matrix") game)
      ≡ list_all (is_cost k) (matrix_numbers_in game)
  matrix_tests h =
      let shape =
      (and_parts (has_only_keys matrix_keys game)
      (passes (is_array_of (is_array_of (is_numeric (has_texts game)))) (get (codes "matrix") game)) h).1 in
      rows_pass (is_numeric (has_texts game)) (is_cost k) (parts_at (codes "matrix") game)
      (items_pass (is_array_of (is_numeric (has_texts game))) (get (codes "matrix") game) shape)

  pub table_tests : is_table_shaped game ≡ true
      → has_numbers_as k (Some Table) game ≡ list_all (is_worth k) (table_numbers_in game)
  table_tests h =
      let worths = parts_at (codes "worths") game in
      let sparse = parts_at (codes "sparse") game in
      let other = get (codes "default") game in
      let pairs = pairs_by game (lists_worths game) (lists_coalitions game) refl refl (table_form game h) in
      ap₂ (λ a b. (list_all (is_worth k) worths && a) && b)
      (pairs_pass (has_texts game) (is_worth k) sparse pairs)
      (there_passes (is_worth k) other)
      ∙ three (list_all (is_worth k) worths) (list_all (is_worth k) (all_parts pair_number sparse))
      (list_all (is_worth k) (if_there other))
      ∙ ap (λ b. list_all (is_worth k) worths && b)
      (sym (list_all-append (is_worth k) (all_parts pair_number sparse) (if_there other)))
      ∙ sym (list_all-append (is_worth k) worths (all_parts pair_number sparse ++ if_there other))

-- ---- what is said of a class

-- the scale of a game of the class is that of its own values, and so is the test of its numbers
pub record OwnsNumbers (c : Option Class) (game : Data) : Type 0 where
  pub scale : common_scale (own_values_as c game) ≡ scale_of game
  pub tested : (nat_le (scale_of game) 65536 && has_numbers_as (scale_of game) c game)
      ≡ are_numbers_as c (own_values_as c game)

worths_tested : (k : ℕ) (ds : List Data) (b : Bool) → common_scale ds ≡ k → b ≡ list_all (is_worth k) ds
    → (nat_le k 65536 && b) ≡ are_worths ds
worths_tested k ds b e t =
    ap (λ c. nat_le k 65536 && c) t
    ∙ ap (λ n. nat_le n 65536 && list_all (is_worth n) ds) (sym e)

pub costs_tested : (k : ℕ) (ds : List Data) (b : Bool) → common_scale ds ≡ k → b ≡ list_all (is_cost k) ds
    → (nat_le k 65536 && b) ≡ are_costs ds
costs_tested k ds b e t =
    ap (λ c. nat_le k 65536 && c) t
    ∙ ap (λ n. nat_le n 65536 && list_all (is_cost n) ds) (sym e)

-- a class whose own values ds are all the numbers of its game
module _ (c : Class) (game : Data) (ds : List Data) (values : own_values_as (Some c) game ≡ ds)
    (all : game_numbers game ≡ ds) where
  own_scale : common_scale (own_values_as (Some c) game) ≡ scale_of game
  own_scale = ap common_scale (values ∙ sym all)

  pub owns_worths : are_numbers_as (Some c) ds ≡ are_worths ds
      → ((k : ℕ) → has_numbers_as k (Some c) game ≡ list_all (is_worth k) ds) → OwnsNumbers (Some c) game
  owns_worths limits tests = record {
    scale = own_scale;
    tested =
        worths_tested (scale_of game) ds _ (ap common_scale (sym all)) (tests (scale_of game)) ∙ sym limits
        ∙ ap (are_numbers_as (Some c)) (sym values);
  }

  pub owns_costs : are_numbers_as (Some c) ds ≡ are_costs ds
      → ((k : ℕ) → has_numbers_as k (Some c) game ≡ list_all (is_cost k) ds) → OwnsNumbers (Some c) game
  owns_costs limits tests = record {
    scale = own_scale;
    tested =
        costs_tested (scale_of game) ds _ (ap common_scale (sym all)) (tests (scale_of game)) ∙ sym limits
        ∙ ap (are_numbers_as (Some c)) (sym values);
  }
