-- What holds of the game that a document of a class describes: the list of classes.
--
-- A new class adds its module; what holds of it, as one record, which says among other things that the values that it
-- gathers are all the numbers of its game; and its line in `laws_of`.
pub mod MatrixRows
pub mod MarketRows
pub mod Votes
use Rattle.std.specs.Prelude.{unwrap_or, option_and_then, ⊤}
use Rattle.std.proofs.Common.{◌≡◌, ℕ, ◌+◌, ◌-◌, ◌≤◌, true, codes, ◌&&◌, nat_lt, nat_le}
use Rattle.std.proofs.Common.{Option, Some, None, IfSome, arith, List, length, map, unsigned_abs, refl}
use Rattle.std.proofs.Common.{sym, ap, ap₂, ◌∙◌}
use Rattle.std.proofs.lemmas.Bool.{false≢true, and_parts, ltb-true, leb-true}
use Rattle.std.proofs.lemmas.List.{length-map}
use Rattle.serde_json.specs.Data.{Data}
use Rattle.serde_json.specs.Find.{get}
use Rattle.tree_games.proofs.Nearest.{tree_is_game}
use Rattle.assignment_games.proofs.Games.{assignment_is_game}
use Rattle.json_texts.specs.Exact.{IsOrdered}
use Rattle.json_trees.specs.Trees.{integer, parts_at}
use Rattle.document_parts.specs.Sizes.{is_list_size, is_short_list_size}
use Rattle.document_parts.specs.Scales.{table_numbers_in, matrix_numbers_in}
use Rattle.document_parts.specs.ScaledNumbers.{number_or_zero, numbers_at}
use Rattle.kinds.specs.declared.refusal.Refusal.{Refusal}
use Rattle.kinds.specs.declared.refusal.Refusal.TheVariants.{TooLong, NotJson}
use Rattle.game_text.specs.Classes.TableClass.{has_worths_for, players_at}
use Rattle.game_text.specs.Classes.AirportClass.{airport_players, airport_values}
use Rattle.game_text.specs.Classes.BankruptcyClass.{bankruptcy_players, bankruptcy_values}
use Rattle.game_text.specs.Classes.MatrixClass.{rows_of}
use Rattle.game_text.specs.Classes.AssignmentClass.{sellers_at}
use Rattle.game_text.specs.Classes.VotingClass.{voting_players}
use Rattle.game_text.specs.Classes.{is_shaped_as, has_players_as, players_as, class_of, has_numbers_as, own_as}
use Rattle.game_text.specs.Classes.{game_of, description_as, IsOfClass}
use Rattle.game_text.specs.declared.classes.Class.{Class}
use Rattle.game_text.specs.declared.classes.Class.TheVariants.{Table, Cost, Airport, Bankruptcy, Tree, Assignment}
use Rattle.game_text.specs.declared.classes.Class.TheVariants.{Market, Voting}
use Rattle.game_text.specs.Readings.{IsTableClass}
use Rattle.game_text.specs.Shape.{is_game_shaped}
use Rattle.game_text.proofs.Sizes.{IsPlayers, players_range, of_both_tables}
use Rattle.game_text.proofs.Laws.MatrixRows.{row_count, seller_count_of, points_in, entries_in, links_hold}
use Rattle.game_text.proofs.PlainTrees.{IsPlain}
use Rattle.game_text.proofs.GameTrees.{shaped_as, plain_table, plain_airport, plain_bankruptcy, plain_matrix}
use Rattle.game_text.proofs.OwnValues.{OwnsNumbers, owns_worths, owns_costs, table_numbers_are, table_tests}
use Rattle.game_text.proofs.OwnValues.{airport_numbers_in, bankruptcy_numbers_in, bankruptcy_tests}
use Rattle.game_text.proofs.OwnValues.{matrix_numbers_are, matrix_tests}
use Rattle.game_text.proofs.Laws.Votes.{owns_votes, plain_voting}

-- ---- the numbers of players within the limits of the classes are 1 to 64

abbrev pub IsCount : ℕ → Type 0
IsCount n = (1 ≤ n) × (n ≤ 64)

at_table : (game : Data) (o : Option ℕ) → IfSome o IsPlayers → has_worths_for game o ≡ true
    → IsPlayers (unwrap_or o 0)
at_table game None r h = absurd (false≢true h)
at_table game (Some n) r h = r

pub table_range : (game : Data) → has_worths_for game (players_at game) ≡ true
    → IsPlayers (unwrap_or (players_at game) 0)
table_range game h =
    at_table game (players_at game) (players_range (option_and_then integer (get (codes "players") game))) h

pub listed : (n : ℕ) → is_list_size n ≡ true → IsCount n
listed n h =
    let range = and_parts (nat_lt 0 n) (nat_le n 64) h in
    (ltb-true 0 n range.0, leb-true n 64 range.1)

pub short_listed : (n : ℕ) → is_short_list_size n ≡ true → (1 ≤ n) × (n ≤ 32)
short_listed n h =
    let range = and_parts (nat_lt 0 n) (nat_le n 32) h in
    (ltb-true 0 n range.0, leb-true n 32 range.1)

pub of_table : (n : ℕ) → IsPlayers n → IsCount n
of_table n h = (h.0, omega (arith, h.1))

pub of_voters : (n : ℕ) → (1 ≤ n) × (n ≤ 32) → IsCount n
of_voters n h = (h.0, omega (arith, h.1))

pub of_points : (n : ℕ) → (nat_le 2 n && nat_le n 17) ≡ true → IsCount (n - 1)
of_points n h =
    let range = and_parts (nat_le 2 n) (nat_le n 17) h in
    let some = leb-true 2 n range.0 in
    let few = leb-true n 17 range.1 in
    (omega (arith, some), omega (arith, some, few))

pub of_sides : (n m : ℕ) → (1 ≤ n) × (n ≤ 32) → (1 ≤ m) × (m ≤ 32) → IsCount (n + m)
of_sides n m h k = (omega (arith, h.0), omega (arith, h.1, k.1))

pub of_pairs : (n m : ℕ) → (nat_le 1 n && nat_le 1 m && nat_le (n + m) 16) ≡ true → IsCount (n + m)
of_pairs n m h =
    let front = and_parts (nat_le 1 n && nat_le 1 m) (nat_le (n + m) 16) h in
    let some = leb-true 1 n (and_parts (nat_le 1 n) (nat_le 1 m) front.0).0 in
    let few = leb-true (n + m) 16 front.1 in
    (omega (arith, some), omega (arith, few))

-- a table has at most 16
pub table_counted : (c : Option Class) (game : Data) → IsTableClass c → has_players_as c game ≡ true
    → players_as c game ≤ 16
table_counted c game t h =
    of_both_tables (λ c. has_players_as c game ≡ true → players_as c game ≤ 16) (λ h. (table_range game h).1)
    (λ h. (table_range game h).1) c t h

-- ---- laws

-- a refusal of the tree is behind the first two
abbrev pub IsOfTree : Option Refusal → Type 0
IsOfTree None = ⊤
IsOfTree (Some TooLong) = ⊥
IsOfTree (Some NotJson) = ⊥
IsOfTree (Some r) = ⊤

-- a game within the limits of the class has 1 to 64 players; the values that the class gathers are all its numbers;
-- that which is described has as many players as the tree; its worths are those of the class; the refusal of the class
-- is one of a tree; and a tree that passes the tests of the class holds no float and is nested at most 4 deep
pub record Laws (c : Option Class) : Type 0 where
  pub counted : (game : Data) → has_players_as c game ≡ true → IsCount (players_as c game)
  pub own : (game : Data) → is_shaped_as c game ≡ true → OwnsNumbers c game
  pub described : (k : ℕ) (game : Data) → c ≡ class_of game
      → (game_of (description_as k c game)).players ≡ players_as c game
  pub of_class : (k : ℕ) (game : Data) → has_players_as c game ≡ true → has_numbers_as k c game ≡ true
      → (own_as k c game).1 ≡ true → IsOfClass (description_as k c game)
  pub of_tree : (k : ℕ) (game : Data) → IsOfTree (Some (own_as k c game).0)
  pub plain : (k : ℕ) (game : Data) → IsOrdered game → class_of game ≡ c → is_game_shaped game ≡ true
      → has_players_as c game ≡ true → has_numbers_as k c game ≡ true → (own_as k c game).1 ≡ true → IsPlain 4 game

costs_length : (k : ℕ) (key : List ℕ) (game : Data)
    → length (map unsigned_abs (numbers_at k key game)) ≡ length (parts_at key game)
costs_length k key game =
    length-map (numbers_at k key game) unsigned_abs ∙ length-map (parts_at key game) (number_or_zero k)

no_laws : Laws None
no_laws = record {
  counted = λ game h. absurd (false≢true h);
  own = λ game h. absurd (false≢true h);
  described = λ k game e. refl;
  of_class = λ k game p n m. tt;
  of_tree = λ k game. tt;
  plain = λ k game o e h p n m. absurd (false≢true p);
}

table_laws : Laws (Some Table)
table_laws = record {
  counted = λ game h. of_table (unwrap_or (players_at game) 0) (table_range game h);
  own = λ game h. owns_worths Table game (table_numbers_in game) refl (table_numbers_are game h) refl
      (λ k. table_tests k game h);
  described = λ k game e. ap (λ o. players_as o game) (sym e);
  of_class = λ k game p n m. tt;
  of_tree = λ k game. tt;
  plain = λ k game o e h p n m. plain_table k game Table o e h (shaped_as game Table e h) p n m;
}

cost_laws : Laws (Some Cost)
cost_laws = record {
  counted = λ game h. of_table (unwrap_or (players_at game) 0) (table_range game h);
  own = λ game h. owns_worths Cost game (table_numbers_in game) refl (table_numbers_are game h) refl
      (λ k. table_tests k game h);
  described = λ k game e. ap (λ o. players_as o game) (sym e);
  of_class = λ k game p n m. tt;
  of_tree = λ k game. tt;
  plain = λ k game o e h p n m. plain_table k game Cost o e h (shaped_as game Cost e h) p n m;
}

airport_laws : Laws (Some Airport)
airport_laws = record {
  counted = λ game h. listed (airport_players game) h;
  own = λ game h. owns_costs Airport game (airport_values game) refl (airport_numbers_in game h) refl
      (λ k. refl);
  described = λ k game e. costs_length k (codes "costs") game;
  of_class = λ k game p n m. tt;
  of_tree = λ k game. tt;
  plain = λ k game o e h p n m. plain_airport k game o e h n;
}

bankruptcy_laws : Laws (Some Bankruptcy)
bankruptcy_laws = record {
  counted = λ game h. listed (bankruptcy_players game) h;
  own = λ game h. owns_costs Bankruptcy game (bankruptcy_values game) refl
      (bankruptcy_numbers_in game h) refl (λ k. bankruptcy_tests k game h);
  described = λ k game e. costs_length k (codes "claims") game;
  of_class = λ k game p n m. tt;
  of_tree = λ k game. tt;
  plain = λ k game o e h p n m. plain_bankruptcy k game o e h n;
}

tree_laws : Laws (Some Tree)
tree_laws = record {
  counted = λ game h. of_points (length (parts_at (codes "matrix") game)) h;
  own = λ game h. owns_costs Tree game (matrix_numbers_in game) refl (matrix_numbers_are game h) refl
      (λ k. matrix_tests k game h);
  described = λ k game e. ap (λ n. n - 1) (row_count k game);
  of_class = λ k game p n m. tree_is_game (rows_of k game) (record {
    points = points_in k game p;
    entries = entries_in k game n;
    links = links_hold (rows_of k game) m;
  });
  of_tree = λ k game. tt;
  plain = λ k game o e h p n m. plain_matrix k game Tree o e h (shaped_as game Tree e h) n;
}

assignment_laws : Laws (Some Assignment)
assignment_laws = record {
  counted = λ game h. of_pairs (length (parts_at (codes "matrix") game)) (sellers_at game) h;
  own = λ game h. owns_costs Assignment game (matrix_numbers_in game) refl (matrix_numbers_are game h) refl
      (λ k. matrix_tests k game h);
  described = λ k game e. ap₂ (λ p q. p + q) (row_count k game) (seller_count_of k game);
  of_class = λ k game p n m. assignment_is_game (rows_of k game);
  of_tree = λ k game. tt;
  plain = λ k game o e h p n m. plain_matrix k game Assignment o e h (shaped_as game Assignment e h) n;
}

market_laws : Laws (Some Market)
market_laws = record {
  counted = λ game h.
      let n = length (parts_at (codes "matrix") game) in
      let sides = and_parts (is_short_list_size n) (is_short_list_size (sellers_at game)) h in
      of_sides n (sellers_at game) (short_listed n sides.0) (short_listed (sellers_at game) sides.1);
  own = λ game h. owns_costs Market game (matrix_numbers_in game) refl (matrix_numbers_are game h) refl
      (λ k. matrix_tests k game h);
  described = λ k game e. ap₂ (λ p q. p + q) (row_count k game) (seller_count_of k game);
  of_class = λ k game p n m. assignment_is_game (rows_of k game);
  of_tree = λ k game. tt;
  plain = λ k game o e h p n m. plain_matrix k game Market o e h (shaped_as game Market e h) n;
}

voting_laws : Laws (Some Voting)
voting_laws = record {
  counted = λ game h. of_voters (voting_players game) (short_listed (voting_players game) h);
  own = owns_votes;
  described = λ k game e. costs_length 1 (codes "weights") game;
  of_class = λ k game p n m. tt;
  of_tree = λ k game. tt;
  plain = λ k game o e h p n m. plain_voting k game o e h n;
}

pub laws_of : (c : Option Class) → Laws c
laws_of None = no_laws
laws_of (Some Table) = table_laws
laws_of (Some Cost) = cost_laws
laws_of (Some Airport) = airport_laws
laws_of (Some Bankruptcy) = bankruptcy_laws
laws_of (Some Tree) = tree_laws
laws_of (Some Assignment) = assignment_laws
laws_of (Some Market) = market_laws
laws_of (Some Voting) = voting_laws
