-- Assignment games in a document: what each buyer and each seller are worth together, a row for each buyer and a column
-- for each seller.
--
--   sellers_at               the number of sellers
--   assignment_players       the number of players
--   has_assignment_players   there are buyers and sellers, at most 16 together
--   are_even                 the rows have one length
--   assignment_rules         the rules of assignment games
use Rattle.std.specs.Prelude.{◌+◌, ℕ, ℤ, List, length, codes, Bool, ◌&&◌, nat_le}
use Rattle.serde_json.specs.Data.{Data}
use Rattle.assignment_games.specs.Assignments.{seller_count}
use Rattle.json_trees.specs.Trees.{parts_at, first_parts}
use Rattle.game_text.specs.Classes.MatrixClass.{have_length}
use Rattle.kinds.specs.declared.refusal.Refusal.TheVariants.{Matrix}
use Rattle.document_parts.specs.Scales.{matrix_numbers_in}
use Rattle.document_parts.specs.Numbers.{are_costs}
use Rattle.game_text.specs.Classes.MatrixClass.{is_matrix_shaped, has_matrix_numbers, rows_of}
use Rattle.game_text.specs.Classes.Rules.{ClassRules}

-- the sellers: one for each item of the first row
abbrev pub sellers_at : Data → ℕ
sellers_at game = length (first_parts (parts_at (codes "matrix") game))

-- one player for each row, and one for each item of the first row
abbrev pub assignment_players : Data → ℕ
assignment_players game = length (parts_at (codes "matrix") game) + sellers_at game

-- a row and an item in the first, and at most 16 together
abbrev pub has_assignment_players : Data → Bool
has_assignment_players game =
    nat_le 1 (length (parts_at (codes "matrix") game)) && nat_le 1 (sellers_at game)
    && nat_le (assignment_players game) 16

-- each row is as long as the first
abbrev pub are_even : List (List ℤ) → Bool
are_even rows = have_length (seller_count rows) rows

-- the rows have one length
abbrev pub assignment_rules : {D : Type 0} → (List (List ℤ) → D) → ClassRules D
assignment_rules describe = record {
  is_shaped = is_matrix_shaped;
  has_players = has_assignment_players;
  players = assignment_players;
  has_numbers = has_matrix_numbers;
  values = matrix_numbers_in;
  are_numbers = are_costs;
  own_test = λ k n game. (Matrix, are_even (rows_of k game));
  description = λ k n game. describe (rows_of k game);
}
