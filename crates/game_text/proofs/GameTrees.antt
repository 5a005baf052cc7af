-- The tree of a game that isn't refused holds no float and is nested at most 8 deep.
use Rattle.std.proofs.Common.{◌≡◌, ℕ, ◌+◌, ◌≤◌, ℤ, pos, codes, List, [], ◌∷◌}
use Rattle.std.proofs.Common.{map, Bool}
use Rattle.std.proofs.Common.{true, not, ◌&&◌, ◌||◌, Option, Some, None, is_some, is_none}
use Rattle.std.proofs.Common.{option_map, option_and_then, refl, ap, subst, arith}
use Rattle.std.specs.List.{list_all, list_any, AllByRecursion}
use Rattle.std.specs.Prelude.{unwrap_or}
use Rattle.std.proofs.lemmas.Bool.{false≢true, and_parts}
use Rattle.serde_json.specs.Data.{Data, null, boolean, number, string, array, object}
use Rattle.serde_json.specs.Find.{get, as_str, as_array, as_object}
use Rattle.json_texts.specs.Exact.{IsOrdered}
use Rattle.json_trees.specs.Keys.{has_only_keys}
use Rattle.json_trees.specs.Trees.{parts, parts_at, passes, passes_if_there, is_number, is_numeric, is_text}
use Rattle.json_trees.specs.Trees.{is_array_of, are_two, integer, is_member, second_passes, first_parts}
use Rattle.json_trees.specs.Trees.{pair_members}
use Rattle.game_text.specs.Classes.AirportClass.{airport_keys}
use Rattle.std.specs.Ordering.{int_eq}
use Rattle.fractions.specs.Fraction.{Fraction}
use Rattle.worth_core.specs.LeastDenominators.{numerator_over}
use Rattle.json_trees.specs.Fractions.{whole_fraction, fraction_of}
use Rattle.document_parts.specs.ScaledNumbers.{if_small, small_number}
use Rattle.document_parts.specs.Version.{is_version, has_texts}
use Rattle.document_parts.specs.Excess.{is_measure}
use Rattle.game_text.specs.Classes.{class_named, class_of, is_shaped_as, players, has_numbers_as, masks}
use Rattle.game_text.specs.Shape.{is_game_shaped}
use Rattle.game_text.specs.Classes.TableClass.{is_sparse_pair, table_keys, lists_worths, lists_coalitions}
use Rattle.game_text.specs.Classes.TableClass.{is_table_shaped, table_players, players_at, has_worths_for, has_worth}
use Rattle.game_text.specs.Classes.TableClass.{has_table_numbers, is_worth}
use Rattle.game_text.specs.Classes.BankruptcyClass.{bankruptcy_keys}
use Rattle.game_text.specs.Classes.MatrixClass.{matrix_keys, is_matrix_shaped, has_matrix_numbers}
use Rattle.document_parts.specs.Sizes.{if_integer, is_small_cost, is_cost}
use Rattle.document_parts.specs.Names.{names_of}
use Rattle.document_parts.specs.Members.{player_of, join, joined, mask_of, is_mask, are_coalitions}
use Rattle.json_trees.specs.Players.{numbered_player}
use Rattle.game_text.specs.declared.classes.Class.{Class}
use Rattle.game_text.specs.declared.classes.Class.TheVariants.{Airport, Bankruptcy}
use Rattle.game_text.proofs.PlainTrees.{IsPlain, plain_text, plain_integer, plain_array, all_plain}
use Rattle.game_text.proofs.PlainTrees.{plain_known, has_members, IsPlainAt, either}

-- ---- numbers

integer_if : (test : ℤ → Bool) (o : Option ℤ) → if_integer test o ≡ true → is_some o ≡ true
integer_if test None h = absurd (false≢true h)
integer_if test (Some z) h = refl

whole_some : (o : Option ℤ) → is_some (whole_fraction o) ≡ true → is_some o ≡ true
whole_some None h = absurd (false≢true h)
whole_some (Some z) h = refl

plain_fraction : (m : ℕ) (d : Data) → is_some (fraction_of d) ≡ true → IsPlain m d
plain_fraction m null h = absurd (false≢true h)
plain_fraction m (boolean b) h = absurd (false≢true h)
plain_fraction m (number k) h = plain_integer m (number k) (whole_some (integer (number k)) h)
plain_fraction m (string s) h = plain_text m (string s) refl
plain_fraction m (array ds) h = absurd (false≢true h)
plain_fraction m (object ms) h = absurd (false≢true h)

small_some : (f : Fraction → ℤ) (o : Option Fraction) → is_some (if_small (option_map f o)) ≡ true
    → is_some o ≡ true
small_some f None h = absurd (false≢true h)
small_some f (Some x) h = refl

plain_worth : (k m : ℕ) (d : Data) → is_worth k d ≡ true → IsPlain m d
plain_worth k m d h = plain_fraction m d (small_some (numerator_over (pos k)) (fraction_of d) h)

pub plain_cost : (k m : ℕ) (d : Data) → is_cost k d ≡ true → IsPlain m d
plain_cost k m d h = plain_worth k m d (integer_if is_small_cost (small_number k d) h)

-- ---- coalitions of a sparse table

some_first : (f : ℤ → Option ℕ) (o : Option ℤ) → is_some (option_and_then f o) ≡ true → is_some o ≡ true
some_first f None h = absurd (false≢true h)
some_first f (Some z) h = refl

plain_member : (n : ℕ) (names : List (List ℕ)) (d : Data) → is_some (player_of n names d) ≡ true → IsPlain 0 d
plain_member n names null h = absurd (false≢true h)
plain_member n names (boolean b) h = absurd (false≢true h)
plain_member n names (number k) h =
    plain_integer 0 (number k) (some_first (numbered_player n) (integer (number k)) h)
plain_member n names (string s) h = plain_text 0 (string s) refl
plain_member n names (array ds) h = absurd (false≢true h)
plain_member n names (object ms) h = absurd (false≢true h)

record Joins (n : ℕ) (names : List (List ℕ)) (o : Option ℕ) (ds : List Data) : Type 0 where
  player : is_some o ≡ true
  mask : ℕ
  rest : is_some (joined n names mask ds) ≡ true

with_mask : (n : ℕ) (names : List (List ℕ)) (i : ℕ) (o : Option ℕ) (ds : List Data)
    → is_some (option_and_then (λ t. joined n names t ds) o) ≡ true → Joins n names (Some i) ds
with_mask n names i None ds h = absurd (false≢true h)
with_mask n names i (Some t) ds h = record { player = refl; mask = t; rest = h }

joins : (n : ℕ) (names : List (List ℕ)) (s : ℕ) (o : Option ℕ) (ds : List Data)
    → is_some (option_and_then (λ t. joined n names t ds) (option_and_then (join s) o)) ≡ true → Joins n names o ds
joins n names s None ds h = absurd (false≢true h)
joins n names s (Some i) ds h = with_mask n names i (join s i) ds h

plain_joined : (n : ℕ) (names : List (List ℕ)) (s : ℕ) (ds : List Data) → is_some (joined n names s ds) ≡ true
    → AllByRecursion (IsPlain 0) ds
plain_joined n names s [] h = tt
plain_joined n names s (d ∷ ds) h =
    let j = joins n names s (player_of n names d) ds h in
    (plain_member n names d j.player, plain_joined n names j.mask ds j.rest)

plain_mask : (n : ℕ) (names : List (List ℕ)) (ds : List Data) → is_some (mask_of n names ds) ≡ true
    → AllByRecursion (IsPlain 0) ds
plain_mask n names [] h = tt
plain_mask n names (d ∷ ds) h = plain_joined n names 0 (d ∷ ds) h

is_pair : (t : Bool) (d : Data) → is_sparse_pair t d ≡ true → is_some (as_array d) ≡ true
is_pair t null h = absurd (false≢true h)
is_pair t (boolean b) h = absurd (false≢true h)
is_pair t (number n) h = absurd (false≢true h)
is_pair t (string s) h = absurd (false≢true h)
is_pair t (array ds) h = refl
is_pair t (object ms) h = absurd (false≢true h)

pair_parts : (t : Bool) (k n : ℕ) (names : List (List ℕ)) (xs : List Data)
    → are_two (is_array_of is_member) (is_numeric t) xs ≡ true → second_passes (is_worth k) xs ≡ true
    → is_some (mask_of n names (first_parts xs)) ≡ true → AllByRecursion (IsPlain 1) xs
pair_parts t k n names [] h w m = tt
pair_parts t k n names (x ∷ []) h w m = absurd (false≢true h)
pair_parts t k n names (x ∷ y ∷ []) h w m =
    let both = and_parts (is_array_of is_member x) (is_numeric t y) h in
    let kinds = and_parts (is_some (as_array x)) (list_all is_member (parts x)) both.0 in
    (plain_array 0 x kinds.0 (plain_mask n names (parts x) m), (plain_worth k 1 y w, tt))
pair_parts t k n names (x ∷ y ∷ z ∷ xs) h w m = absurd (false≢true h)

record IsFront (o : Option ℕ) (os : List (Option ℕ)) : Type 0 where
  first : is_some o ≡ true
  rest : are_coalitions os ≡ true

front : (o : Option ℕ) (os : List (Option ℕ)) → are_coalitions (o ∷ os) ≡ true → IsFront o os
front None os h = absurd (false≢true h)
front (Some s) os h =
    record { first = refl; rest = (and_parts (not (list_any (is_mask s) os)) (are_coalitions os) h).1 }

plain_pairs : (t : Bool) (k n : ℕ) (names : List (List ℕ)) (pairs : List Data)
    → list_all (is_sparse_pair t) pairs ≡ true → list_all (has_worth k) pairs ≡ true
    → are_coalitions (map (λ pair. mask_of n names (pair_members pair)) pairs) ≡ true
    → AllByRecursion (IsPlain 2) pairs
plain_pairs t k n names [] h w m = tt
plain_pairs t k n names (pair ∷ pairs) h w m =
    let shaped = and_parts (is_sparse_pair t pair) (list_all (is_sparse_pair t) pairs) h in
    let worths = and_parts (has_worth k pair) (list_all (has_worth k) pairs) w in
    let coalitions =
    front (mask_of n names (pair_members pair)) (map (λ p. mask_of n names (pair_members p)) pairs) m in (
      plain_array 1 pair (is_pair t pair shaped.0)
          (pair_parts t k n names (parts pair) shaped.0 worths.0 coalitions.first),
      plain_pairs t k n names pairs shaped.1 worths.1 coalitions.rest,
    )

-- ---- what stands at a key

pub at_there : (test : Data → Bool) (key : List ℕ) (d e : Data) → passes test (get key d) ≡ true → get key d ≡ Some e
    → test e ≡ true
at_there test key d e h g = subst (λ o. passes test o ≡ true) g h

at_if_there : (test : Data → Bool) (key : List ℕ) (d e : Data) → passes_if_there test (get key d) ≡ true
    → get key d ≡ Some e → test e ≡ true
at_if_there test key d e h g = subst (λ o. passes_if_there test o ≡ true) g h

parts_there : (key : List ℕ) (d e : Data) → get key d ≡ Some e → parts_at key d ≡ parts e
parts_there key d e g = ap (λ o. unwrap_or (option_map parts o) []) g

pub plain_numbers : (kind test : Data → Bool) → ((e : Data) → test e ≡ true → IsPlain 0 e) → (key : List ℕ) (d : Data)
    → passes (is_array_of kind) (get key d) ≡ true → list_all test (parts_at key d) ≡ true → IsPlainAt 1 key d
plain_numbers kind test good key d h w e g =
    let kinds =
    and_parts (is_some (as_array e)) (list_all kind (parts e)) (at_there (is_array_of kind) key d e h g) in
    plain_array 0 e kinds.0
    (all_plain 0 test good (parts e) (subst (λ l. list_all test l ≡ true) (parts_there key d e g) w))

pub plain_names : (m : ℕ) (d : Data) → passes_if_there (is_array_of is_text) (get (codes "names") d) ≡ true
    → IsPlainAt (m + 1) (codes "names") d
plain_names m d h e g =
    let kinds =
    and_parts (is_some (as_array e)) (list_all is_text (parts e))
    (at_if_there (is_array_of is_text) (codes "names") d e h g) in
    plain_array m e kinds.0 (all_plain m is_text (plain_text m) (parts e) kinds.1)

measure_text : (d : Data) → is_measure d ≡ true → is_text d ≡ true
measure_text null h = absurd (false≢true h)
measure_text (boolean b) h = absurd (false≢true h)
measure_text (number n) h = absurd (false≢true h)
measure_text (string s) h = refl
measure_text (array ds) h = absurd (false≢true h)
measure_text (object ms) h = absurd (false≢true h)

pub plain_excess : (m : ℕ) (d : Data) → passes_if_there is_measure (get (codes "excess") d) ≡ true
    → IsPlainAt m (codes "excess") d
plain_excess m d h e g = plain_text m e (measure_text e (at_if_there is_measure (codes "excess") d e h g))

class_text : (d : Data) (c : Class) → option_and_then class_named (as_str d) ≡ Some c → is_text d ≡ true
class_text null c h = absurd (cc h)
class_text (boolean b) c h = absurd (cc h)
class_text (number n) c h = absurd (cc h)
class_text (string s) c h = refl
class_text (array ds) c h = absurd (cc h)
class_text (object ms) c h = absurd (cc h)

pub plain_class : (m : ℕ) (d : Data) (c : Class) → class_of d ≡ Some c → IsPlainAt m (codes "class") d
plain_class m d c h e g =
    plain_text m e (class_text e c (subst (λ o. option_and_then class_named (option_and_then as_str o) ≡ Some c) g h))

has_class : (o : Option Data) (c : Class) → option_and_then class_named (option_and_then as_str o) ≡ Some c
    → is_some o ≡ true
has_class None c h = absurd (cc h)
has_class (Some d) c h = refl

member_of : (key : List ℕ) (d : Data) (o : Option Data) → get key d ≡ o → is_some o ≡ true
    → is_some (as_object d) ≡ true
member_of key d None g h = absurd (false≢true h)
member_of key d (Some e) g h = has_members key d e g

pub is_object : (d : Data) (c : Class) → class_of d ≡ Some c → is_some (as_object d) ≡ true
is_object d c h = member_of (codes "class") d (get (codes "class") d) refl (has_class (get (codes "class") d) c h)

-- ---- airports and estates

front_shaped : (game : Data) → is_game_shaped game ≡ true
    → ((passes_if_there (is_array_of is_text) (get (codes "names") game)
    && passes_if_there is_measure (get (codes "excess") game)
    && passes_if_there is_version (get (codes "version") game)) ≡ true)
    × (is_shaped_as (class_of game) game ≡ true)
front_shaped game h =
    and_parts
    (passes_if_there (is_array_of is_text) (get (codes "names") game)
    && passes_if_there is_measure (get (codes "excess") game)
    && passes_if_there is_version (get (codes "version") game)) (is_shaped_as (class_of game) game) h

words_shaped : (game : Data) → is_game_shaped game ≡ true
    → (passes_if_there (is_array_of is_text) (get (codes "names") game) ≡ true)
    × (passes_if_there is_measure (get (codes "excess") game) ≡ true)
words_shaped game h =
    and_parts (passes_if_there (is_array_of is_text) (get (codes "names") game))
    (passes_if_there is_measure (get (codes "excess") game))
    (and_parts
    (passes_if_there (is_array_of is_text) (get (codes "names") game)
    && passes_if_there is_measure (get (codes "excess") game))
    (passes_if_there is_version (get (codes "version") game)) (front_shaped game h).0).0

pub named : (game : Data) → is_game_shaped game ≡ true
    → passes_if_there (is_array_of is_text) (get (codes "names") game) ≡ true
named game h = (words_shaped game h).0

pub measured : (game : Data) → is_game_shaped game ≡ true
    → passes_if_there is_measure (get (codes "excess") game) ≡ true
measured game h = (words_shaped game h).1

pub versioned : (game : Data) → is_game_shaped game ≡ true
    → passes_if_there is_version (get (codes "version") game) ≡ true
versioned game h =
    (and_parts
    (passes_if_there (is_array_of is_text) (get (codes "names") game)
    && passes_if_there is_measure (get (codes "excess") game))
    (passes_if_there is_version (get (codes "version") game)) (front_shaped game h).0).1

integer_of_version : (o : Option ℤ)
    → (int_eq (unwrap_or o (pos 0)) (pos 1) || int_eq (unwrap_or o (pos 0)) (pos 2)) ≡ true → is_some o ≡ true
integer_of_version None h = absurd (false≢true h)
integer_of_version (Some z) h = refl

pub plain_version : (m : ℕ) (d : Data) → passes_if_there is_version (get (codes "version") d) ≡ true
    → IsPlainAt m (codes "version") d
plain_version m d h e g =
    plain_integer m e (integer_of_version (integer e) (at_if_there is_version (codes "version") d e h g))

pub shaped_as : (game : Data) (c : Class) → class_of game ≡ Some c → is_game_shaped game ≡ true
    → is_shaped_as (Some c) game ≡ true
shaped_as game c e h = subst (λ o. is_shaped_as o game ≡ true) e (front_shaped game h).1

deeper : (m k : ℕ) (d : Data) → m ≤ k → IsPlain m d → IsPlain k d
deeper m k d h p = record { whole = p.whole; integers = p.integers; shallow = omega (arith, h, p.shallow) }

pub at_deeper : (m k : ℕ) (key : List ℕ) (d : Data) → m ≤ k → IsPlainAt m key d → IsPlainAt k key d
at_deeper m k key d h p e g = deeper m k e h (p e g)

pub plain_airport : (k : ℕ) (game : Data) → IsOrdered game → class_of game ≡ Some Airport → is_game_shaped game ≡ true
    → has_numbers_as k (Some Airport) game ≡ true → IsPlain 4 game
plain_airport k game o c h w =
    let shape =
    and_parts (has_only_keys airport_keys game)
    (passes (is_array_of (is_numeric (has_texts game))) (get (codes "costs") game))
    (shaped_as game Airport c h) in
    plain_known 3 airport_keys game o (is_object game Airport c) shape.0 (
      plain_class 3 game Airport c,
      (
        at_deeper 1 3 (codes "costs") game (omega arith)
            (plain_numbers (is_numeric (has_texts game)) (is_cost k) (plain_cost k 0) (codes "costs") game shape.1 w),
        (
          plain_excess 3 game (measured game h),
          (plain_names 2 game (named game h), (plain_version 3 game (versioned game h), tt)),
        ),
      ),
    )

pub plain_bankruptcy : (k : ℕ) (game : Data) → IsOrdered game → class_of game ≡ Some Bankruptcy
    → is_game_shaped game ≡ true → has_numbers_as k (Some Bankruptcy) game ≡ true → IsPlain 4 game
plain_bankruptcy k game o c h w =
    let shape =
    and_parts
    (has_only_keys bankruptcy_keys game && passes (is_numeric (has_texts game)) (get (codes "estate") game))
    (passes (is_array_of (is_numeric (has_texts game))) (get (codes "claims") game))
    (shaped_as game Bankruptcy c h) in
    let front =
    and_parts (has_only_keys bankruptcy_keys game)
    (passes (is_numeric (has_texts game)) (get (codes "estate") game)) shape.0 in
    let numbers =
    and_parts (passes (is_cost k) (get (codes "estate") game))
    (list_all (is_cost k) (parts_at (codes "claims") game)) w in
    plain_known 3 bankruptcy_keys game o (is_object game Bankruptcy c) front.0 (
      plain_class 3 game Bankruptcy c,
      (
        at_deeper 1 3 (codes "claims") game (omega arith)
            (plain_numbers (is_numeric (has_texts game)) (is_cost k) (plain_cost k 0) (codes "claims") game shape.1
            numbers.1),
        (
          (λ e g. plain_cost k 3 e (at_there (is_cost k) (codes "estate") game e numbers.0 g)),
          (
            plain_excess 3 game (measured game h),
            (plain_names 2 game (named game h), (plain_version 3 game (versioned game h), tt)),
          ),
        ),
      ),
    )

-- ---- trees, assignments and markets

plain_row : (k : ℕ) (e : Data) → is_array_of (is_cost k) e ≡ true → IsPlain 1 e
plain_row k e h =
    let kinds = and_parts (is_some (as_array e)) (list_all (is_cost k) (parts e)) h in
    plain_array 0 e kinds.0 (all_plain 0 (is_cost k) (plain_cost k 0) (parts e) kinds.1)

plain_rows : (kind : Data → Bool) (k : ℕ) (d : Data) → passes (is_array_of kind) (get (codes "matrix") d) ≡ true
    → list_all (is_array_of (is_cost k)) (parts_at (codes "matrix") d) ≡ true → IsPlainAt 2 (codes "matrix") d
plain_rows kind k d h w e g =
    let kinds =
    and_parts (is_some (as_array e)) (list_all kind (parts e))
    (at_there (is_array_of kind) (codes "matrix") d e h g) in
    plain_array 1 e kinds.0
    (all_plain 1 (is_array_of (is_cost k)) (plain_row k) (parts e)
    (subst (λ l. list_all (is_array_of (is_cost k)) l ≡ true) (parts_there (codes "matrix") d e g) w))

pub plain_matrix : (k : ℕ) (game : Data) (c : Class) → IsOrdered game → class_of game ≡ Some c
    → is_game_shaped game ≡ true → is_matrix_shaped game ≡ true → has_matrix_numbers k game ≡ true → IsPlain 4 game
plain_matrix k game c o e h s w =
    let shape =
    and_parts (has_only_keys matrix_keys game)
    (passes (is_array_of (is_array_of (is_numeric (has_texts game)))) (get (codes "matrix") game)) s in
    plain_known 3 matrix_keys game o (is_object game c e) shape.0 (
      plain_class 3 game c e,
      (
        plain_excess 3 game (measured game h),
        (
          at_deeper 2 3 (codes "matrix") game (omega arith)
              (plain_rows (is_array_of (is_numeric (has_texts game))) k game shape.1 w),
          (plain_names 2 game (named game h), (plain_version 3 game (versioned game h), tt)),
        ),
      ),
    )

-- ---- tables

integer_at_key : (o : Option Data) → is_some (option_and_then table_players (option_and_then integer o)) ≡ true
    → passes (λ d. is_some (integer d)) o ≡ true
integer_at_key None h = absurd (false≢true h)
integer_at_key (Some d) h = some_first table_players (integer d) h

count_there : (game : Data) (o : Option ℕ) → has_worths_for game o ≡ true → is_some o ≡ true
count_there game None h = absurd (false≢true h)
count_there game (Some n) h = refl

plain_players : (m : ℕ) (game : Data) → has_worths_for game (players_at game) ≡ true
    → IsPlainAt m (codes "players") game
plain_players m game h e g =
    plain_integer m e
    (at_there (λ d. is_some (integer d)) (codes "players") game e
    (integer_at_key (get (codes "players") game) (count_there game (players_at game) h)) g)

none_some : {P : Type 0} (o : Option Data) (e : Data) → is_none o ≡ true → o ≡ Some e → P
none_some None e h g = absurd (cc g)
none_some (Some d) e h g = absurd (false≢true h)

plain_worths : (k : ℕ) (game : Data) → (lists_worths game || lists_coalitions game) ≡ true
    → list_all (is_worth k) (parts_at (codes "worths") game) ≡ true → IsPlainAt 1 (codes "worths") game
plain_worths k game h w e g =
    either (lists_worths game) (lists_coalitions game) h
    (λ h.
    let a =
    and_parts
    (passes (is_array_of (is_numeric (has_texts game))) (get (codes "worths") game)
    && is_none (get (codes "sparse") game)) (is_none (get (codes "default") game)) h in
    let b =
    and_parts (passes (is_array_of (is_numeric (has_texts game))) (get (codes "worths") game))
    (is_none (get (codes "sparse") game)) a.0 in
    plain_numbers (is_numeric (has_texts game)) (is_worth k) (plain_worth k 0) (codes "worths") game b.0 w e g)
    (λ h.
    let a =
    and_parts
    (passes (is_array_of (is_sparse_pair (has_texts game))) (get (codes "sparse") game)
    && is_none (get (codes "worths") game))
    (passes_if_there (is_numeric (has_texts game)) (get (codes "default") game)) h in
    let b =
    and_parts (passes (is_array_of (is_sparse_pair (has_texts game))) (get (codes "sparse") game))
    (is_none (get (codes "worths") game)) a.0 in
    none_some (get (codes "worths") game) e b.1 g)

plain_sparse : (k : ℕ) (game : Data) → (lists_worths game || lists_coalitions game) ≡ true
    → list_all (has_worth k) (parts_at (codes "sparse") game) ≡ true → are_coalitions (masks game) ≡ true
    → IsPlainAt 3 (codes "sparse") game
plain_sparse k game h w m e g =
    either (lists_worths game) (lists_coalitions game) h
    (λ h.
    let a =
    and_parts
    (passes (is_array_of (is_numeric (has_texts game))) (get (codes "worths") game)
    && is_none (get (codes "sparse") game)) (is_none (get (codes "default") game)) h in
    let b =
    and_parts (passes (is_array_of (is_numeric (has_texts game))) (get (codes "worths") game))
    (is_none (get (codes "sparse") game)) a.0 in
    none_some (get (codes "sparse") game) e b.1 g)
    (λ h.
    let a =
    and_parts
    (passes (is_array_of (is_sparse_pair (has_texts game))) (get (codes "sparse") game)
    && is_none (get (codes "worths") game))
    (passes_if_there (is_numeric (has_texts game)) (get (codes "default") game)) h in
    let b =
    and_parts (passes (is_array_of (is_sparse_pair (has_texts game))) (get (codes "sparse") game))
    (is_none (get (codes "worths") game)) a.0 in
    let kinds =
    and_parts (is_some (as_array e)) (list_all (is_sparse_pair (has_texts game)) (parts e))
    (at_there (is_array_of (is_sparse_pair (has_texts game))) (codes "sparse") game e b.0 g) in
    let there = parts_there (codes "sparse") game e g in
    plain_array 2 e kinds.0
    (plain_pairs (has_texts game) k (players game) (names_of game) (parts e) kinds.1
    (subst (λ l. list_all (has_worth k) l ≡ true) there w)
    (subst (λ l. are_coalitions (map (λ pair. mask_of (players game) (names_of game) (pair_members pair)) l) ≡ true)
    there m)))

pub plain_table : (k : ℕ) (game : Data) (c : Class) → IsOrdered game → class_of game ≡ Some c
    → is_game_shaped game ≡ true → is_table_shaped game ≡ true → has_worths_for game (players_at game) ≡ true
    → has_table_numbers k game ≡ true
    → are_coalitions (masks game) ≡ true → IsPlain 4 game
plain_table k game c o e h t n w m =
    let shape =
    and_parts (has_only_keys table_keys game && passes is_number (get (codes "players") game))
    (lists_worths game || lists_coalitions game) t in
    let front = and_parts (has_only_keys table_keys game) (passes is_number (get (codes "players") game)) shape.0 in
    let numbers =
    and_parts
    (list_all (is_worth k) (parts_at (codes "worths") game)
    && list_all (has_worth k) (parts_at (codes "sparse") game))
    (passes_if_there (is_worth k) (get (codes "default") game)) w in
    let listed =
    and_parts (list_all (is_worth k) (parts_at (codes "worths") game))
    (list_all (has_worth k) (parts_at (codes "sparse") game)) numbers.0 in
    plain_known 3 table_keys game o (is_object game c e) front.0 (
      plain_class 3 game c e,
      (
        (λ d g. plain_worth k 3 d (at_if_there (is_worth k) (codes "default") game d numbers.1 g)),
        (
          plain_excess 3 game (measured game h),
          (
            plain_names 2 game (named game h),
            (
              plain_players 3 game n,
              (
                plain_sparse k game shape.1 listed.1 m,
                (
                  plain_version 3 game (versioned game h),
                  (at_deeper 1 3 (codes "worths") game (omega arith) (plain_worths k game shape.1 listed.0), tt),
                ),
              ),
            ),
          ),
        ),
      ),
    )
