-- A game that passed the tests of its shape, players and numbers has the sizes that its class asks for.
use Rattle.std.proofs.Common.{◌≡◌, ℕ, ◌+◌, ◌-◌, ◌<◌, ◌≤◌, ◌^◌, List, [], ◌∷◌}
use Rattle.std.proofs.Common.{length, map, Bool, true, false}
use Rattle.std.proofs.Common.{nat_lt, nat_le, ◌&&◌, ◌||◌, if◌then◌else◌, ℤ, pos, negsuc, Option, Some}
use Rattle.std.proofs.Common.{None}
use Rattle.std.proofs.Common.{is_none, All, IfSome, option_map, option_and_then, unwrap_or, unsigned_abs}
use Rattle.std.proofs.Common.{slice_index_or, codes, inl, inr, refl, sym, ap, ap₂, ◌∙◌, subst}
use Rattle.std.proofs.Common.{arith}
use Rattle.std.specs.List.{list_all, range_with_len}
use Rattle.std.proofs.lemmas.Bool.{false≢true, and_parts, ltb-true, leb-true, eqb-true, le-leb}
use Rattle.std.proofs.lemmas.Int.{ints}
use Rattle.std.proofs.lemmas.List.{length-map}
use Rattle.std.proofs.lemmas.Nat.{pow_pos}
use Rattle.std.proofs.lemmas.List.Elements.{All-map}
use Rattle.std.proofs.lemmas.List.FromFn.{length-map-range_with_len}
use Rattle.std.proofs.lemmas.List.Sums.{AllPass-from_list_all}
use Rattle.serde_json.specs.Data.{Data}
use Rattle.serde_json.specs.Find.{get}
use Rattle.airport.specs.Costs.{IsCost}
use Rattle.std.specs.Prelude.{sum}
use Rattle.bankruptcy.specs.Bankruptcy.{Bankruptcy as Claims, bankruptcy}
use Rattle.worth_tables.specs.Tables.{table, IsTable, AreSmall}
use Rattle.document_parts.proofs.LeastDenominators.{if_true}
use Rattle.json_trees.specs.Trees.{parts, parts_at, passes, passes_if_there, is_numeric}
use Rattle.json_trees.specs.Trees.{is_array_of, integer, pair_members}
use Rattle.game_text.specs.Classes.{class_of, is_shaped_as, has_players_as, players_as, players, has_numbers_as}
use Rattle.game_text.specs.Classes.{has_numbers, table_numbers}
use Rattle.document_parts.specs.TableNumbers.{masks_by, sparse_number, sparse_numbers, numbers_by}
use Rattle.game_text.specs.Classes.TableClass.{is_sparse_pair, is_table_shaped, lists_worths, lists_coalitions}
use Rattle.game_text.specs.Classes.TableClass.{table_players, players_at, has_items, has_worths_for}
use Rattle.document_parts.specs.Scales.{scale_of}
use Rattle.document_parts.specs.ScaledNumbers.{is_small, if_small, small_number, number_or_zero}
use Rattle.document_parts.specs.ScaledNumbers.{number_at, numbers_at, second_number}
use Rattle.document_parts.specs.Version.{has_texts}
use Rattle.json_trees.specs.Fractions.{fraction_of}
use Rattle.worth_core.specs.LeastDenominators.{numerator_over}
use Rattle.document_parts.specs.Sizes.{is_small_cost, if_integer, is_cost}
use Rattle.document_parts.specs.Names.{names_of}
use Rattle.game_text.proofs.Choices.{passed_if}
use Rattle.document_parts.specs.Members.{is_mask, mask_of, are_coalitions}
use Rattle.game_text.specs.Readings.{HasSizes, IsTableClass}
use Rattle.game_text.specs.declared.classes.Class.{Class}
use Rattle.game_text.specs.declared.classes.Class.TheVariants.{Table, Cost, Airport, Bankruptcy}
use Rattle.definitions.proofs.Alls.{unsigned_abs-pos_all}

pub all_map : {X Y : Type 0} (P : Y → Type 0) (f : X → Y) (test : X → Bool) → ((x : X) → test x ≡ true → P (f x))
    → (xs : List X) → list_all test xs ≡ true → All P (map f xs)
all_map P f test good xs h =
    All-map P f xs (λ k d l. good (slice_index_or xs k d) (AllPass-from_list_all test xs h k d l))

-- ---- worths

abbrev Small : ℤ → Type 0
Small z = unsigned_abs z < 2 ^ 40

small_zero : Small (pos 0)
small_zero = omega arith

small_kept : (o : Option ℤ) → Small (unwrap_or (if_small o) (pos 0))
small_kept None = small_zero
small_kept (Some z) = kept (is_small z) refl
  where
    kept : (b : Bool) → is_small z ≡ b → Small (unwrap_or (if b then Some z else None) (pos 0))
    kept true e = ltb-true _ _ e
    kept false e = small_zero

small_worth : (k : ℕ) (d : Data) → Small (number_or_zero k d)
small_worth k d = small_kept (option_map (numerator_over (pos k)) (fraction_of d))

small_default : (k : ℕ) (o : Option Data) → Small (unwrap_or (option_and_then (small_number k) o) (pos 0))
small_default k None = small_zero
small_default k (Some d) = small_worth k d

small_second : (k : ℕ) (ds : List Data) → Small (second_number k ds)
small_second k [] = small_zero
small_second k (x ∷ []) = small_zero
small_second k (x ∷ y ∷ []) = small_worth k y
small_second k (x ∷ y ∷ z ∷ ds) = small_zero

small_choice : (b : Bool) (x y : ℤ) → Small x → Small y → Small (if b then x else y)
small_choice true x y p q = p
small_choice false x y p q = q

small_sparse : (k n : ℕ) (names : List (List ℕ)) (other : ℤ) (s : ℕ) (pairs : List Data) → Small other
    → Small (sparse_number k n names other s pairs)
small_sparse k n names other s [] p = p
small_sparse k n names other s (pair ∷ pairs) p =
    small_choice (is_mask s (mask_of n names (pair_members pair))) (second_number k (parts pair))
    (sparse_number k n names other s pairs)
    (small_second k (parts pair)) (small_sparse k n names other s pairs p)

small_numbers : (k : ℕ) (game : Data) (n : ℕ) (names : List (List ℕ)) (o : Option Data)
    → AreSmall (numbers_by k o n names game)
small_numbers k game n names None =
    All-map Small (number_or_zero k) (parts_at (codes "worths") game)
    (λ i d l. small_worth k (slice_index_or (parts_at (codes "worths") game) i d))
small_numbers k game n names (Some d) =
    All-map Small
    (λ s. sparse_number k n names (number_at k (codes "default") game) s (parts_at (codes "sparse") game))
    (range_with_len 1 (2 ^ n - 1))
    (λ i e l. small_sparse k n names (number_at k (codes "default") game)
    (slice_index_or (range_with_len 1 (2 ^ n - 1)) i e) (parts_at (codes "sparse") game)
    (small_default k (get (codes "default") game)))

-- ---- as many worths as coalitions

abbrev if_listed : Option Data → List Data
if_listed o = unwrap_or (option_map parts o) []

listed_length : (t : Bool) (k n : ℕ) (worths sparse default : Option Data)
    → ((passes (is_array_of (is_numeric t)) worths && is_none sparse && is_none default)
    || (passes (is_array_of (is_sparse_pair t)) sparse && is_none worths
    && passes_if_there (is_numeric t) default)) ≡ true
    → passes_if_there (has_items (2 ^ n)) worths ≡ true → sparse ≡ None
    → length (map (number_or_zero k) (if_listed worths)) + 1 ≡ 2 ^ n
listed_length t k n worths (Some d) default h w e = absurd (false≢true (ap is_none e))
listed_length t k n None None default h w e = absurd (false≢true h)
listed_length t k n (Some d) None default h w e =
    ap (λ m. m + 1) (length-map (parts d) (number_or_zero k)) ∙ eqb-true _ _ w

numbers_length : (k : ℕ) (game : Data) (n : ℕ) (names : List (List ℕ)) (o : Option Data)
    → (o ≡ None → length (numbers_at k (codes "worths") game) + 1 ≡ 2 ^ n)
    → length (numbers_by k o n names game) + 1 ≡ 2 ^ n
numbers_length k game n names None h = h refl
numbers_length k game n names (Some d) h =
    let long : length (sparse_numbers k n names game) ≡ 2 ^ n - 1 =
    length-map-range_with_len
    (λ s. sparse_number k n names (number_at k (codes "default") game) s (parts_at (codes "sparse") game)) 1
    (2 ^ n - 1) in
    omega (arith, pow_pos n)

abbrev pub IsPlayers : ℕ → Type 0
IsPlayers n = (1 ≤ n) × (n ≤ 16)

in_range : (b c : Bool) (n : ℕ) → (b ≡ true → 1 ≤ n) → (c ≡ true → n ≤ 16)
    → IfSome (if b && c then Some n else None) IsPlayers
in_range true true n p q = (p refl, q refl)
in_range true false n p q = tt
in_range false c n p q = tt

pub players_range : (o : Option ℤ) → IfSome (option_and_then table_players o) IsPlayers
players_range None = tt
players_range (Some (pos n)) = in_range (nat_lt 0 n) (nat_le n 16) n (λ e. ltb-true 0 n e) (λ e. leb-true n 16 e)
players_range (Some (negsuc n)) = tt

table_by : (k : ℕ) (game : Data) (o : Option ℕ) → IfSome o IsPlayers → is_table_shaped game ≡ true
    → has_worths_for game o ≡ true
    → IsTable
    (table (unwrap_or o 0) (numbers_by k (get (codes "sparse") game) (unwrap_or o 0) (names_of game) game))
table_by k game None r s p = absurd (false≢true p)
table_by k game (Some n) r s p =
    let form = and_parts _ (lists_worths game || lists_coalitions game) s in
    record {
      whole = record {
        some = r.0;
        few = r.1;
        each_once = numbers_length k game n (names_of game) (get (codes "sparse") game)
            (listed_length (has_texts game) k n (get (codes "worths") game) (get (codes "sparse") game)
            (get (codes "default") game) form.1 p);
      };
      small = small_numbers k game n (names_of game) (get (codes "sparse") game);
    }

-- what holds of both classes of tables holds of a class of tables
pub of_both_tables : (P : Option Class → Type 0) → P (Some Table) → P (Some Cost) → (c : Option Class)
    → IsTableClass c → P c
of_both_tables P table costs c (inl e) = subst P (sym e) table
of_both_tables P table costs c (inr e) = subst P (sym e) costs

table_as : (k : ℕ) (game : Data) (c : Option Class) → IsTableClass c → is_shaped_as c game ≡ true
    → has_players_as c game ≡ true
    → IsTable
    (table (players_as c game)
    (numbers_by k (get (codes "sparse") game) (players_as c game) (names_of game) game))
table_as k game c t s p =
    of_both_tables
    (λ c. is_shaped_as c game ≡ true → has_players_as c game ≡ true
    → IsTable
    (table (players_as c game)
    (numbers_by k (get (codes "sparse") game) (players_as c game) (names_of game) game)))
    (table_by k game (players_at game) (players_range (option_and_then integer (get (codes "players") game))))
    (table_by k game (players_at game) (players_range (option_and_then integer (get (codes "players") game)))) c t s p

pub table_sizes : (k : ℕ) (game : Data) → IsTableClass (class_of game) → HasSizes game
    → IsTable (table (players game) (table_numbers k game))
table_sizes k game t h =
    table_as k game (class_of game) t (and_parts _ (is_shaped_as (class_of game) game) h.shaped).1 h.players

-- the worths that a table was made of
pub table_made : (k : ℕ) (game : Data) → IsTableClass (class_of game) → HasSizes game
    → (n : ℕ) (names : List (List ℕ)) (worths : List ℤ) → n ≡ players game → names ≡ names_of game
    → Some worths
    ≡ (if are_coalitions (masks_by n names game) then Some (numbers_by k (get (codes "sparse") game) n names game)
    else None) → IsTable (table n worths)
table_made k game t h n names worths e f w =
    let chosen =
    passed_if (are_coalitions (masks_by n names game)) (numbers_by k (get (codes "sparse") game) n names game)
    worths w in
    let same : worths ≡ table_numbers k game =
    chosen.1 ∙ ap₂ (λ m ns. numbers_by k (get (codes "sparse") game) m ns game) e f in
    subst IsTable (sym (ap₂ table e same)) (table_sizes k game t h)

-- ---- costs, an estate and claims

cost_or_zero : (o : Option ℤ) → if_integer is_small_cost o ≡ true → IsCost (unwrap_or o (pos 0))
cost_or_zero None h = absurd (false≢true h)
cost_or_zero (Some (pos n)) h =
    let below = ltb-true n (2 ^ 40) h in (omega (arith, ints), omega (arith, ints, below))
cost_or_zero (Some (negsuc n)) h = absurd (false≢true h)

pub cost : (k : ℕ) (d : Data) → is_cost k d ≡ true → IsCost (number_or_zero k d)
cost k d h = cost_or_zero (small_number k d) h

pub estate_cost : (k : ℕ) (o : Option Data) → passes (is_cost k) o ≡ true
    → IsCost (unwrap_or (option_and_then (small_number k) o) (pos 0))
estate_cost k None h = absurd (false≢true h)
estate_cost k (Some d) h = cost k d h

-- 1 to 64 costs
pub record AreCosts (costs : List ℤ) : Type 0 where
  pub some : 1 ≤ length costs
  pub few : length costs ≤ 64
  pub small : All IsCost costs

costs_in : (k : ℕ) (ds : List Data) → (nat_lt 0 (length ds) && nat_le (length ds) 64) ≡ true
    → list_all (is_cost k) ds ≡ true → AreCosts (map (number_or_zero k) ds)
costs_in k ds p q =
    let range = and_parts (nat_lt 0 (length ds)) (nat_le (length ds) 64) p in
    let some = ltb-true 0 (length ds) range.0 in
    let few = leb-true (length ds) 64 range.1 in
    let long = length-map ds (number_or_zero k) in
    record {
      some = omega (arith, some, long);
      few = omega (arith, few, long);
      small = all_map IsCost (number_or_zero k) (is_cost k) (cost k) ds q;
    }

-- the numbers times the scale are within their limits
pub numbers_within : (game : Data) (k : ℕ) (c : Class) → k ≡ scale_of game → class_of game ≡ Some c
    → has_numbers game ≡ true → has_numbers_as k (Some c) game ≡ true
numbers_within game k c s e h =
    subst (λ n. has_numbers_as n (Some c) game ≡ true) (sym s)
    (subst (λ o. has_numbers_as (scale_of game) o game ≡ true) e
    (and_parts (nat_le (scale_of game) 65536) (has_numbers_as (scale_of game) (class_of game) game) h).1)

pub airport_sizes : (k : ℕ) (game : Data) → k ≡ scale_of game → class_of game ≡ Some Airport → HasSizes game
    → AreCosts (numbers_at k (codes "costs") game)
airport_sizes k game s e h =
    costs_in k (parts_at (codes "costs") game) (subst (λ c. has_players_as c game ≡ true) e h.players)
    (numbers_within game k Airport s e h.numbers)

-- an estate and claims in their limits
pub record AreClaims (estate : ℤ) (claims : List ℤ) : Type 0 where
  pub estate_small : IsCost estate
  pub claims_small : AreCosts claims

pub bankruptcy_sizes : (k : ℕ) (game : Data) → k ≡ scale_of game → class_of game ≡ Some Bankruptcy → HasSizes game
    → AreClaims (number_at k (codes "estate") game) (numbers_at k (codes "claims") game)
bankruptcy_sizes k game s e h =
    let both =
    and_parts (passes (is_cost k) (get (codes "estate") game))
    (list_all (is_cost k) (parts_at (codes "claims") game))
    (numbers_within game k Bankruptcy s e h.numbers) in
    record {
      estate_small = estate_cost k (get (codes "estate") game) both.0;
      claims_small =
          costs_in k (parts_at (codes "claims") game) (subst (λ c. has_players_as c game ≡ true) e h.players) both.1;
    }

-- ---- kept as natural numbers

pub kept_sizes : (ns : List ℕ) (zs : List ℤ) → map pos ns ≡ zs → ns ≡ map unsigned_abs zs
kept_sizes ns zs e = sym (unsigned_abs-pos_all ns) ∙ ap (map unsigned_abs) e

pub claims_made : (b : Claims) (estate : ℤ) (claims : List ℤ) → pos b.estate ≡ estate → map pos b.claims ≡ claims
    → b.estate ≤ sum b.claims
    → Some b
    ≡ (if nat_le (unsigned_abs estate) (sum (map unsigned_abs claims))
    then Some (bankruptcy (unsigned_abs estate) (map unsigned_abs claims)) else None)
claims_made b estate claims e f h =
    let x : unsigned_abs estate ≡ b.estate = ap unsigned_abs (sym e) in
    let y : map unsigned_abs claims ≡ b.claims = sym (kept_sizes b.claims claims f) in
    rw (x, y) (if_true (nat_le b.estate (sum b.claims)) (Some b) None (le-leb b.estate (sum b.claims) h))
