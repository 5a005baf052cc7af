-- Markets in a document: a matrix like that of an assignment game, for more buyers and sellers.
--
--   has_market_players   there are 1 to 32 buyers, and 1 to 32 sellers
--   market_rules         the rules of markets
use Rattle.std.specs.Prelude.{List, ℤ, length, codes, Bool, ◌&&◌}
use Rattle.serde_json.specs.Data.{Data}
use Rattle.json_trees.specs.Trees.{parts_at}
use Rattle.document_parts.specs.Sizes.{is_short_list_size}
use Rattle.game_text.specs.Classes.AssignmentClass.{sellers_at}
use Rattle.kinds.specs.declared.refusal.Refusal.TheVariants.{Matrix}
use Rattle.document_parts.specs.Scales.{matrix_numbers_in}
use Rattle.document_parts.specs.Numbers.{are_costs}
use Rattle.game_text.specs.Classes.MatrixClass.{is_matrix_shaped, has_matrix_numbers, rows_of}
use Rattle.game_text.specs.Classes.AssignmentClass.{assignment_players, are_even}
use Rattle.game_text.specs.Classes.Rules.{ClassRules}

-- 1 to 32 rows, and 1 to 32 items in the first
abbrev pub has_market_players : Data → Bool
has_market_players game =
    is_short_list_size (length (parts_at (codes "matrix") game)) && is_short_list_size (sellers_at game)

-- the rows have one length
abbrev pub market_rules : {D : Type 0} → (List (List ℤ) → D) → ClassRules D
market_rules describe = record {
  is_shaped = is_matrix_shaped;
  has_players = has_market_players;
  players = assignment_players;
  has_numbers = has_matrix_numbers;
  values = matrix_numbers_in;
  are_numbers = are_costs;
  own_test = λ k n game. (Matrix, are_even (rows_of k game));
  description = λ k n game. describe (rows_of k game);
}
