-- The rows of a matrix in a document, and what the tests of them say.
use Rattle.std.proofs.Common.{◌≡◌, ◌==◌, ℕ, ◌<◌, ℤ, List, [], ◌∷◌, length, map}
use Rattle.std.proofs.Common.{get_or, codes}
use Rattle.std.proofs.Common.{Bool, true, false, ◌&&◌, nat_le, Some, None, is_some}
use Rattle.std.proofs.Common.{if◌then◌else◌, All, refl, sym, ap, subst, ◌∙◌, arith}
use Rattle.std.specs.List.{list_all, range_with_len, AllPass}
use Rattle.std.proofs.lemmas.Bool.{true≢false, and_parts, leb-true, eqb-true, eq-eqb}
use Rattle.std.proofs.lemmas.List.{length-map}
use Rattle.std.proofs.lemmas.List.FromFn.{length-range_with_len, get_or-range_with_len}
use Rattle.std.proofs.lemmas.List.Sums.{AllPass-from_list_all, list_all-from_AllPass}
use Rattle.serde_json.specs.Data.{Data}
use Rattle.serde_json.specs.Find.{as_array}
use Rattle.definitions.proofs.Cases.{and_both}
use Rattle.airport.specs.Costs.{IsCost}
use Rattle.matrices.specs.Rows.{entries_of, HaveEntries, HaveLength}
use Rattle.tree_games.specs.Trees.{HavePoints, AreLinks, IsTree}
use Rattle.tree_games.proofs.Squares.{square-symmetric, square-loopless}
use Rattle.assignment_games.specs.Assignments.{seller_count, HavePlayers, IsEven}
use Rattle.document_parts.specs.Scales.{scale_of}
use Rattle.document_parts.specs.ScaledNumbers.{number_or_zero, numbers_of}
use Rattle.json_trees.specs.Trees.{parts, parts_at, first_parts, is_array_of}
use Rattle.document_parts.specs.Sizes.{is_cost}
use Rattle.game_text.specs.Classes.{class_of, has_players_as}
use Rattle.game_text.specs.Classes.MatrixClass.{rows_of, have_length, has_matrix_numbers}
use Rattle.game_text.specs.Classes.TreeClass.{is_turned, is_linked, are_links, has_tree_players}
use Rattle.game_text.specs.Classes.AssignmentClass.{sellers_at, assignment_players, has_assignment_players, are_even}
use Rattle.game_text.specs.Readings.{HasSizes}
use Rattle.game_text.specs.declared.classes.Class.TheVariants.{Tree, Assignment}
use Rattle.game_text.proofs.Sizes.{all_map, cost, numbers_within}

-- ---- how many rows there are, and how long the first is

pub row_count : (k : ℕ) (game : Data) → length (rows_of k game) ≡ length (parts_at (codes "matrix") game)
row_count k game = length-map (parts_at (codes "matrix") game) (numbers_of k)

first_length : (k : ℕ) (ds : List Data) → seller_count (map (numbers_of k) ds) ≡ length (first_parts ds)
first_length k [] = refl
first_length k (d ∷ ds) = length-map (parts d) (number_or_zero k)

pub seller_count_of : (k : ℕ) (game : Data) → seller_count (rows_of k game) ≡ sellers_at game
seller_count_of k game = first_length k (parts_at (codes "matrix") game)

-- ---- entries

row_entries : (k : ℕ) (d : Data) → is_array_of (is_cost k) d ≡ true → All IsCost (numbers_of k d)
row_entries k d h =
    all_map IsCost (number_or_zero k) (is_cost k) (cost k) (parts d)
    (and_parts (is_some (as_array d)) (list_all (is_cost k) (parts d)) h).1

pub entries_in : (k : ℕ) (game : Data) → has_matrix_numbers k game ≡ true → HaveEntries (rows_of k game)
entries_in k game h =
    all_map (All IsCost) (numbers_of k) (is_array_of (is_cost k)) (row_entries k) (parts_at (codes "matrix") game) h

pub points_in : (k : ℕ) (game : Data) → has_tree_players game ≡ true → HavePoints (rows_of k game)
points_in k game h =
    let n = length (parts_at (codes "matrix") game) in
    let both = and_parts (nat_le 2 n) (nat_le n 17) h in
    let some = leb-true 2 n both.0 in
    let few = leb-true n 17 both.1 in
    let same = row_count k game in
    (omega (arith, some, same), omega (arith, few, same))

pub players_in : (k : ℕ) (game : Data) → has_assignment_players game ≡ true → HavePlayers (rows_of k game)
players_in k game h =
    let n = length (parts_at (codes "matrix") game) in
    let front = and_parts (nat_le 1 n && nat_le 1 (sellers_at game)) (nat_le (assignment_players game) 16) h in
    let both = and_parts (nat_le 1 n) (nat_le 1 (sellers_at game)) front.0 in
    let buyers = leb-true 1 n both.0 in
    let sellers = leb-true 1 (sellers_at game) both.1 in
    let few = leb-true (assignment_players game) 16 front.1 in
    let rows = row_count k game in
    let first = seller_count_of k game in
    (omega (arith, buyers, rows), omega (arith, sellers, first), omega (arith, few, rows, first))

-- the rows have as many points and such entries as a tree game wants
pub record HasTreeSizes (rows : List (List ℤ)) : Type 0 where
  pub points : HavePoints rows
  pub entries : HaveEntries rows

pub tree_sizes : (k : ℕ) (game : Data) → k ≡ scale_of game → class_of game ≡ Some Tree → HasSizes game
    → HasTreeSizes (rows_of k game)
tree_sizes k game s e h =
    record {
      points = points_in k game (subst (λ c. has_players_as c game ≡ true) e h.players);
      entries = entries_in k game (numbers_within game k Tree s e h.numbers);
    }

-- the rows have as many players and such entries as an assignment game wants
pub record HasAssignmentSizes (rows : List (List ℤ)) : Type 0 where
  pub players : HavePlayers rows
  pub entries : HaveEntries rows

pub assignment_sizes : (k : ℕ) (game : Data) → k ≡ scale_of game → class_of game ≡ Some Assignment → HasSizes game
    → HasAssignmentSizes (rows_of k game)
assignment_sizes k game s e h =
    record {
      players = players_in k game (subst (λ c. has_players_as c game ≡ true) e h.players);
      entries = entries_in k game (numbers_within game k Assignment s e h.numbers);
    }

-- ---- tests of all numbers below a bound

at_place : (n i d : ℕ) → i < n → get_or (range_with_len 0 n) i d ≡ i
at_place n i d lt = let there = get_or-range_with_len 0 n i d lt in omega (arith, there)

below : (n : ℕ) (test : ℕ → Bool) → list_all test (range_with_len 0 n) ≡ true → (i : ℕ) → i < n → test i ≡ true
below n test h i lt =
    let long = length-range_with_len 0 n in
    subst (λ k. test k ≡ true) (at_place n i 0 lt)
    (AllPass-from_list_all test (range_with_len 0 n) h i 0 (omega (arith, lt, long)))

all_below : (n : ℕ) (test : ℕ → Bool) → ((i : ℕ) → i < n → test i ≡ true)
    → list_all test (range_with_len 0 n) ≡ true
all_below n test h = list_all-from_AllPass test (range_with_len 0 n) each
  where
    each : AllPass test (range_with_len 0 n)
    each i d lt =
        let long = length-range_with_len 0 n in
        let low : i < n = omega (arith, lt, long) in
        subst (λ k. test k ≡ true) (sym (at_place n i d low)) (h i low)

-- ---- lengths

length_holds : (n : ℕ) (rows : List (List ℤ)) → have_length n rows ≡ true → HaveLength n rows
length_holds n rows h i d lt = eqb-true _ _ (AllPass-from_list_all (λ row. length row == n) rows h i d lt)

length_passes : (n : ℕ) (rows : List (List ℤ)) → HaveLength n rows → have_length n rows ≡ true
length_passes n rows h = list_all-from_AllPass (λ row. length row == n) rows (λ i d lt. eq-eqb _ _ (h i d lt))

-- ---- links

pub links_hold : (rows : List (List ℤ)) → are_links rows ≡ true → AreLinks rows
links_hold rows h =
    let n = length rows in
    let both = and_parts (have_length n rows) (list_all (is_linked n rows) (range_with_len 0 n)) h in
    let square = length_holds n rows both.0 in
    record {
      square = square;
      symmetric =
          square-symmetric rows square
          (λ i il j jl. eqb-true _ _ (below n (is_turned rows i) (parts_of i il).1 j jl));
      loopless = square-loopless rows square (λ i il. eqb-true _ _ (parts_of i il).0);
    }
  where
    parts_of : (i : ℕ) → i < length rows
        → ((entries_of rows i i == 0) ≡ true)
        × (list_all (is_turned rows i) (range_with_len 0 (length rows)) ≡ true)
    parts_of i il =
        let n = length rows in
        let both = and_parts (have_length n rows) (list_all (is_linked n rows) (range_with_len 0 n)) h in
        and_parts (entries_of rows i i == 0) (list_all (is_turned rows i) (range_with_len 0 n))
        (below n (is_linked n rows) both.1 i il)

links_pass : (rows : List (List ℤ)) → AreLinks rows → are_links rows ≡ true
links_pass rows h =
    let n = length rows in
    and_both (have_length n rows) (list_all (is_linked n rows) (range_with_len 0 n)) (length_passes n rows h.square)
    (all_below n (is_linked n rows)
    (λ i il. and_both (entries_of rows i i == 0) (list_all (is_turned rows i) (range_with_len 0 n))
    (eq-eqb _ _ (h.loopless i))
    (all_below n (is_turned rows i) (λ j jl. eq-eqb _ _ (h.symmetric i j)))))

-- ---- what was made of the rows, or not

made_if : {A : Type 0} (b : Bool) (x y : A) → y ≡ x → b ≡ true → Some y ≡ (if b then Some x else None)
made_if true x y e h = ap Some e
made_if false x y e h = absurd (true≢false (sym h))

pub none_if : {A : Type 0} (b : Bool) (x : A) → ¬ (b ≡ true) → None ≡ (if b then Some x else None)
none_if true x h = absurd (h refl)
none_if false x h = refl

pub tree_made : (made rows there : List (List ℤ)) → rows ≡ there → made ≡ rows → IsTree rows
    → Some made ≡ (if are_links there then Some there else None)
tree_made made rows there e f h =
    made_if (are_links there) there made (f ∙ e) (ap are_links (sym e) ∙ links_pass rows h.links)

pub tree_not_made : (rows there : List (List ℤ)) → rows ≡ there → ¬ AreLinks rows
    → None ≡ (if are_links there then Some there else None)
tree_not_made rows there e h = none_if (are_links there) there (λ t. h (links_hold rows (ap are_links e ∙ t)))

pub even_made : (made rows there : List (List ℤ)) → rows ≡ there → made ≡ rows → IsEven rows
    → Some made ≡ (if are_even there then Some there else None)
even_made made rows there e f h =
    made_if (are_even there) there made (f ∙ e) (ap are_even (sym e) ∙ length_passes (seller_count rows) rows h)

pub even_not_made : (rows there : List (List ℤ)) → rows ≡ there → ¬ IsEven rows
    → None ≡ (if are_even there then Some there else None)
even_not_made rows there e h =
    none_if (are_even there) there (λ t. h (length_holds (seller_count rows) rows (ap are_even e ∙ t)))
