-- Tree games in a document: the cost of the link between each two points, which are the source and the players. Row
-- and column 0 are those of the source.
--
--   tree_players       the number of players
--   has_tree_players   there are 1 to 16, and the source
--   is_turned          an entry is the same in both directions
--   is_linked          so are all entries from a point, and that to itself is 0
--   are_links          the rows are those of links
--   tree_rules         the rules of tree games
use Rattle.std.specs.Prelude.{◌==◌, ◌-◌, ℕ, ℤ, List, length, codes, Bool, ◌&&◌, nat_le}
use Rattle.std.specs.List.{list_all, range_with_len}
use Rattle.serde_json.specs.Data.{Data}
use Rattle.matrices.specs.Rows.{entries_of}
use Rattle.json_trees.specs.Trees.{parts_at}
use Rattle.game_text.specs.Classes.MatrixClass.{have_length}
use Rattle.kinds.specs.declared.refusal.Refusal.TheVariants.{Matrix}
use Rattle.document_parts.specs.Scales.{matrix_numbers_in}
use Rattle.document_parts.specs.Numbers.{are_costs}
use Rattle.game_text.specs.Classes.MatrixClass.{is_matrix_shaped, has_matrix_numbers, rows_of}
use Rattle.game_text.specs.Classes.Rules.{ClassRules}

-- one player for each row but the source's
abbrev pub tree_players : Data → ℕ
tree_players game = length (parts_at (codes "matrix") game) - 1

-- 2 to 17 rows
abbrev pub has_tree_players : Data → Bool
has_tree_players game =
    nat_le 2 (length (parts_at (codes "matrix") game)) && nat_le (length (parts_at (codes "matrix") game)) 17

abbrev pub is_turned : List (List ℤ) → ℕ → ℕ → Bool
is_turned rows i j = entries_of rows i j == entries_of rows j i

-- of n points: the entries from point i are the same in both directions, and that to itself is 0
abbrev pub is_linked : ℕ → List (List ℤ) → ℕ → Bool
is_linked n rows i = (entries_of rows i i == 0) && list_all (is_turned rows i) (range_with_len 0 n)

-- a square, the same in both directions, and 0 from each point to itself
-- (the class's own test, and no part of its description: rows that don't fit it describe something all the same)
abbrev pub are_links : List (List ℤ) → Bool
are_links rows =
    have_length (length rows) rows && list_all (is_linked (length rows) rows) (range_with_len 0 (length rows))

-- the rows are those of links
abbrev pub tree_rules : {D : Type 0} → (List (List ℤ) → D) → ClassRules D
tree_rules describe = record {
  is_shaped = is_matrix_shaped;
  has_players = has_tree_players;
  players = tree_players;
  has_numbers = has_matrix_numbers;
  values = matrix_numbers_in;
  are_numbers = are_costs;
  own_test = λ k n game. (Matrix, are_links (rows_of k game));
  description = λ k n game. describe (rows_of k game);
}
