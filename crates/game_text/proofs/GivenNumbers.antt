-- What each class makes of the numbers of its game.
use Rattle.std.proofs.Common.{◌≡◌, ◌&&◌, ◌||◌, ◌≤◌, ◌-◌, ◌^◌, ℕ, ℤ, pos, List, [], ◌∷◌, ◌++◌, length, map, codes}
use Rattle.std.proofs.Common.{take, drop, get_or, Bool, true, false, Option, Some}
use Rattle.std.proofs.Common.{None, is_some, option_map, if◌then◌else◌}
use Rattle.std.proofs.Common.{slice_index_or}
use Rattle.std.specs.List.{remove}
use Rattle.std.proofs.Common.{refl, sym, ap, ap₂, ◌∙◌, arith}
use Rattle.std.specs.Prelude.{unwrap_or, option_and_then}
use Rattle.std.specs.List.{list_all, range_with_len}
use Rattle.std.proofs.lemmas.Bool.{false≢true, and_parts}
use Rattle.std.proofs.lemmas.List.{append-nil, map-append, length-map, length-append}
use Rattle.serde_json.specs.Data.{Data}
use Rattle.serde_json.specs.Find.{get}
use Rattle.json_trees.specs.Trees.{parts, parts_at, pair_members, passes, is_array_of, is_numeric}
use Rattle.json_trees.specs.Trees.{are_two, is_member}
use Rattle.document_parts.specs.Members.{mask_of, is_mask, are_coalitions}
use Rattle.document_parts.specs.Numbers.{in_rows, number_of_mask}
use Rattle.document_parts.specs.Scales.{if_there, second_part, pair_number, all_parts, table_numbers_in, scale_of}
use Rattle.document_parts.specs.Scales.{matrix_numbers_in}
use Rattle.document_parts.specs.ScaledNumbers.{small_number, number_or_zero, number_at, numbers_at, second_number}
use Rattle.document_parts.specs.TableNumbers.{masks_by, sparse_number, numbers_by}
use Rattle.document_parts.specs.Version.{has_texts}
use Rattle.game_text.specs.Classes.{class_of, own_values_as, own_numbers}
use Rattle.game_text.specs.Classes.MatrixClass.{rows_of}
use Rattle.game_text.specs.Classes.BankruptcyClass.{bankruptcy_keys}
use Rattle.game_text.specs.Classes.TableClass.{is_table_shaped, is_sparse_pair, lists_worths, lists_coalitions}
use Rattle.json_trees.specs.Keys.{has_only_keys}
use Rattle.game_text.specs.declared.classes.Class.{Class}
use Rattle.game_text.specs.declared.classes.Class.TheVariants.{Table, Cost, Bankruptcy}
use Rattle.game_text.specs.Readings.{HasSizes, IsTableClass}
use Rattle.game_text.proofs.GameTrees.{shaped_as}
use Rattle.game_text.proofs.OwnValues.{pairs_of, worths_listed, table_form}
use Rattle.game_text.proofs.Sizes.{of_both_tables}

-- the numbers of a game of the class
pub of_class : (c : Class) (game : Data) (zs : List ℤ) → class_of game ≡ Some c → zs ≡ own_numbers game
    → zs ≡ map (number_or_zero (scale_of game)) (own_values_as (Some c) game)
of_class c game zs e h = h ∙ ap (λ o. map (number_or_zero (scale_of game)) (own_values_as o game)) e

-- ---- an estate or a quota, and what stands behind it

pub first_number : (k : ℕ) (shape : Data → Bool) (o : Option Data) (ds : List Data) → passes shape o ≡ true
    → map (number_or_zero k) (if_there o ++ ds)
    ≡ unwrap_or (option_and_then (small_number k) o) (pos 0) ∷ map (number_or_zero k) ds
first_number k shape None ds h = absurd (false≢true h)
first_number k shape (Some d) ds h = refl

-- the first of the numbers, and what is left of them
pub first_is : (zs l : List ℤ) (z r : ℤ) → zs ≡ z ∷ l → r ≡ slice_index_or zs 0 r → r ≡ z
first_is zs l z r e v = v ∙ ap (λ (m : List ℤ). slice_index_or m 0 r) e

pub rest_is : (zs l ys : List ℤ) (z : ℤ) → zs ≡ z ∷ l → ys ≡ remove zs 0 → ys ≡ l
rest_is zs l ys z e v = v ∙ ap (λ (m : List ℤ). remove m 0) e

pub bankruptcy_numbers : (game : Data) (zs : List ℤ) → class_of game ≡ Some Bankruptcy → HasSizes game
    → zs ≡ own_numbers game
    → zs ≡ number_at (scale_of game) (codes "estate") game ∷ numbers_at (scale_of game) (codes "claims") game
bankruptcy_numbers game zs e h n =
    let front =
    and_parts
    (has_only_keys bankruptcy_keys game && passes (is_numeric (has_texts game)) (get (codes "estate") game))
    (passes (is_array_of (is_numeric (has_texts game))) (get (codes "claims") game))
    (shaped_as game Bankruptcy e h.shaped) in
    let estate =
    (and_parts (has_only_keys bankruptcy_keys game)
    (passes (is_numeric (has_texts game)) (get (codes "estate") game)) front.0).1 in
    of_class Bankruptcy game zs e n
    ∙ first_number (scale_of game) (is_numeric (has_texts game)) (get (codes "estate") game)
    (parts_at (codes "claims") game) estate

-- ---- rows

take_front : (xs ys : List ℤ) → take (length xs) (xs ++ ys) ≡ xs
take_front [] ys = refl
take_front (x ∷ xs) ys = ap (λ (l : List ℤ). x ∷ l) (take_front xs ys)

drop_front : (xs ys : List ℤ) → drop (length xs) (xs ++ ys) ≡ ys
drop_front [] ys = refl
drop_front (x ∷ xs) ys = drop_front xs ys

rows_back : (f : Data → ℤ) (ds : List Data)
    → in_rows ds (map f (all_parts parts ds)) ≡ map (λ d. map f (parts d)) ds
rows_back f [] = refl
rows_back f (d ∷ ds) =
    let row = map f (parts d) in
    let later = map f (all_parts parts ds) in
    let whole : map f (parts d ++ all_parts parts ds) ≡ row ++ later =
    map-append f (parts d) (all_parts parts ds) in
    let long : length (parts d) ≡ length row = sym (length-map (parts d) f) in
    ap (in_rows (d ∷ ds)) whole
    ∙ ap₂ (λ (a : List ℤ) (l : List (List ℤ)). a ∷ l)
    (ap (λ n. take n (row ++ later)) long ∙ take_front row later)
    (ap (λ n. in_rows ds (drop n (row ++ later))) long ∙ ap (in_rows ds) (drop_front row later) ∙ rows_back f ds)

-- the rows of a game whose numbers are the entries of its matrix
module _ (c : Class) (game : Data) (arrays : List Data) (entries zs : List ℤ)
    (entered : own_values_as (Some c) game ≡ matrix_numbers_in game) (is : class_of game ≡ Some c)
    (own : entries ≡ own_numbers game) (lent : zs ≡ entries) (at : arrays ≡ parts_at (codes "matrix") game) where
  row_numbers : zs ≡ map (number_or_zero (scale_of game)) (matrix_numbers_in game)
  row_numbers =
      lent ∙ of_class c game entries is own ∙ ap (map (number_or_zero (scale_of game))) entered

  pub rows_enough : length (all_parts parts arrays) ≤ length zs
  rows_enough =
      let long = length-map (matrix_numbers_in game) (number_or_zero (scale_of game)) in
      let same = ap (λ l. length (all_parts parts l)) at in
      let size = ap length row_numbers in
      omega (arith, long, same, size)

  pub rows_given : (rows : List (List ℤ)) → rows ≡ in_rows arrays zs → rows ≡ rows_of (scale_of game) game
  rows_given rows e =
      e ∙ ap₂ in_rows at row_numbers
      ∙ rows_back (number_or_zero (scale_of game)) (parts_at (codes "matrix") game)

-- ---- tables

pair_value : (k : ℕ) (first second : Data → Bool) (ps : List Data) → are_two first second ps ≡ true
    → map (number_or_zero k) (second_part ps) ≡ second_number k ps ∷ []
pair_value k first second [] h = absurd (false≢true h)
pair_value k first second (x ∷ []) h = absurd (false≢true h)
pair_value k first second (x ∷ y ∷ []) h = refl
pair_value k first second (x ∷ y ∷ z ∷ ps) h = absurd (false≢true h)

-- the numbers of pairs, one a pair
pair_values : (k : ℕ) (t : Bool) (ds : List Data) → list_all (is_sparse_pair t) ds ≡ true
    → map (number_or_zero k) (all_parts pair_number ds) ≡ map (λ d. second_number k (parts d)) ds
pair_values k t [] h = refl
pair_values k t (d ∷ ds) h =
    let p = and_parts (is_sparse_pair t d) (list_all (is_sparse_pair t) ds) h in
    map-append (number_or_zero k) (pair_number d) (all_parts pair_number ds)
    ∙ ap₂ (λ (a l : List ℤ). a ++ l) (pair_value k (is_array_of is_member) (is_numeric t) (parts d) p.0)
    (pair_values k t ds p.1)

choice : (b : Bool) (z x y : ℤ) → x ≡ y → (if b then z else x) ≡ (if b then z else y)
choice true z x y e = refl
choice false z x y e = e

number_by_pair : (k n : ℕ) (names : List (List ℕ)) (other : ℤ) (s : ℕ) (ds : List Data) (zs : List ℤ)
    → number_of_mask (map (λ pair. mask_of n names (pair_members pair)) ds)
    (map (λ d. second_number k (parts d)) ds ++ zs) other s ≡ sparse_number k n names other s ds
number_by_pair k n names other s [] zs = refl
number_by_pair k n names other s (d ∷ ds) zs =
    choice (is_mask s (mask_of n names (pair_members d))) (second_number k (parts d)) _ _
    (number_by_pair k n names other s ds zs)

other_value : (k : ℕ) (zs : List ℤ) (o : Option Data)
    → get_or (zs ++ map (number_or_zero k) (if_there o)) (length zs) (pos 0)
    ≡ unwrap_or (option_and_then (small_number k) o) (pos 0)
other_value k [] None = refl
other_value k [] (Some d) = refl
other_value k (z ∷ zs) o = other_value k zs o

map_same : (f g : ℕ → ℤ) (xs : List ℕ) → ((s : ℕ) → f s ≡ g s) → map f xs ≡ map g xs
map_same f g [] h = refl
map_same f g (x ∷ xs) h = ap₂ (λ (a : ℤ) (l : List ℤ). a ∷ l) (h x) (map_same f g xs h)

-- of a table that lists pairs: their numbers, and then that of all others
abbrev pub second_numbers : ℕ → List Data → List ℤ
second_numbers k ds = map (λ d. second_number k (parts d)) ds

module _ (k n : ℕ) (names : List (List ℕ)) (game : Data) (zs : List ℤ)
    (shaped : is_table_shaped game ≡ true) (given : zs ≡ map (number_or_zero k) (table_numbers_in game)) where
  abbrev worths : List Data
  worths = parts_at (codes "worths") game

  abbrev sparse : List Data
  sparse = parts_at (codes "sparse") game

  abbrev default : Option Data
  default = get (codes "default") game

  -- where no pairs are listed
  listed_by : (a b : Bool) → lists_worths game ≡ a → lists_coalitions game ≡ b → (a || b) ≡ true
      → get (codes "sparse") game ≡ None → zs ≡ numbers_at k (codes "worths") game
  listed_by true b e f h none =
      let form = worths_listed game e in
      given
      ∙ ap₂
      (λ s d. map (number_or_zero k)
      (worths ++ (all_parts pair_number (unwrap_or (option_map parts s) []) ++ if_there d)))
      form.unpaired form.no_other
      ∙ ap (map (number_or_zero k)) (append-nil worths)
  listed_by false true e f h none =
      absurd (false≢true
      (sym (ap (passes (is_array_of (is_sparse_pair (has_texts game)))) none) ∙ paired))
    where
      paired : passes (is_array_of (is_sparse_pair (has_texts game))) (get (codes "sparse") game) ≡ true
      paired = (and_parts _ _ (and_parts _ _ f).0).0
  listed_by false false e f h none = absurd (false≢true h)

  pub all_listed : get (codes "sparse") game ≡ None
      → Some zs
      ≡ (if are_coalitions (masks_by n names game)
      then Some (numbers_by k (get (codes "sparse") game) n names game) else None)
  all_listed none =
      let same =
      listed_by (lists_worths game) (lists_coalitions game) refl refl (table_form game shaped) none in
      ap (λ (l : List ℤ). Some l) same
      ∙ sym
      (ap
      (λ s. if are_coalitions
      (map (λ pair. mask_of n names (pair_members pair)) (unwrap_or (option_map parts s) []))
      then Some (numbers_by k s n names game) else None) none)

  some_pairs : (a b : Bool) (d : Data) → lists_worths game ≡ a → lists_coalitions game ≡ b → (a || b) ≡ true
      → get (codes "sparse") game ≡ Some d
      → zs ≡ second_numbers k sparse ++ map (number_or_zero k) (if_there default)
  some_pairs true b d e f h there =
      absurd (false≢true (sym (ap is_some (worths_listed game e).unpaired) ∙ ap is_some there))
  some_pairs false true d e f h there =
      let form = pairs_of game f in
      given
      ∙ ap
      (λ w. map (number_or_zero k)
      (unwrap_or (option_map parts w) [] ++ (all_parts pair_number sparse ++ if_there default)))
      form.unlisted
      ∙ map-append (number_or_zero k) (all_parts pair_number sparse) (if_there default)
      ∙ ap (λ (l : List ℤ). l ++ map (number_or_zero k) (if_there default))
      (pair_values k (has_texts game) sparse form.pairs)
  some_pairs false false d e f h there = absurd (false≢true h)

  module _ (d : Data) (there : get (codes "sparse") game ≡ Some d) where
    in_pairs : zs ≡ second_numbers k sparse ++ map (number_or_zero k) (if_there default)
    in_pairs =
        some_pairs (lists_worths game) (lists_coalitions game) d refl refl (table_form game shaped) there

    long : length (second_numbers k sparse) ≡ length sparse
    long = length-map sparse (λ d. second_number k (parts d))

    pub pairs_enough : length sparse ≤ length zs
    pairs_enough =
        let size =
        ap length in_pairs
        ∙ length-append (second_numbers k sparse) (map (number_or_zero k) (if_there default)) in
        omega (arith, size, long)

    pub numbers_in_pairs : map (number_of_mask (masks_by n names game) zs (get_or zs (length sparse) (pos 0)))
        (range_with_len 1 (2 ^ n - 1))
        ≡ numbers_by k (get (codes "sparse") game) n names game
    numbers_in_pairs =
        let other : get_or zs (length sparse) (pos 0) ≡ number_at k (codes "default") game =
        ap₂ (λ (l : List ℤ) m. get_or l m (pos 0)) in_pairs (sym long)
        ∙ other_value k (second_numbers k sparse) default in
        map_same _ _ (range_with_len 1 (2 ^ n - 1))
        (λ s. ap₂ (λ (l : List ℤ) z. number_of_mask (masks_by n names game) l z s) in_pairs other
        ∙ number_by_pair k n names (number_at k (codes "default") game) s sparse
        (map (number_or_zero k) (if_there default)))
        ∙ sym (ap (λ o. numbers_by k o n names game) there)

  abbrev masked : List Data → List (Option ℕ)
  masked ds = map (λ pair. mask_of n names (pair_members pair)) ds

  -- what a table that lists pairs makes of them
  pub paired_table : (d : Data) → get (codes "sparse") game ≡ Some d → (ds : List Data) (m : ℕ) → ds ≡ parts d
      → m ≡ length ds
      → (if are_coalitions (masked ds)
      then Some (map (number_of_mask (masked ds) zs (get_or zs m (pos 0))) (range_with_len 1 (2 ^ n - 1)))
      else None)
      ≡ (if are_coalitions (masks_by n names game)
      then Some (numbers_by k (get (codes "sparse") game) n names game) else None)
  paired_table d there ds m e f =
      let same : ds ≡ sparse = e ∙ ap (λ o. unwrap_or (option_map parts o) []) (sym there) in
      ap₂
      (λ es j. if are_coalitions (masked es)
      then Some (map (number_of_mask (masked es) zs (get_or zs j (pos 0))) (range_with_len 1 (2 ^ n - 1)))
      else None)
      same (f ∙ ap length same)
      ∙ ap (λ (l : List ℤ). if are_coalitions (masks_by n names game) then Some l else None)
      (numbers_in_pairs d there)

  pub enough_for : (d : Data) → get (codes "sparse") game ≡ Some d → (ds : List Data) (m : ℕ) → ds ≡ parts d
      → m ≡ length ds → m ≤ length zs
  enough_for d there ds m e f =
      let same : ds ≡ sparse = e ∙ ap (λ o. unwrap_or (option_map parts o) []) (sym there) in
      let size = ap length same in
      let enough = pairs_enough d there in
      omega (arith, f, size, enough)

pub table_shape : (game : Data) → IsTableClass (class_of game) → HasSizes game → is_table_shaped game ≡ true
table_shape game t h =
    of_both_tables (λ c. class_of game ≡ c → is_table_shaped game ≡ true) (λ e. shaped_as game Table e h.shaped)
    (λ e. shaped_as game Cost e h.shaped) (class_of game) t refl

pub table_given : (game : Data) (zs : List ℤ) → IsTableClass (class_of game) → zs ≡ own_numbers game
    → zs ≡ map (number_or_zero (scale_of game)) (table_numbers_in game)
table_given game zs t h =
    of_both_tables (λ c. class_of game ≡ c → zs ≡ map (number_or_zero (scale_of game)) (table_numbers_in game))
    (λ e. of_class Table game zs e h) (λ e. of_class Cost game zs e h) (class_of game) t refl
