-- The game of a document that isn't refused passes each test of a game.
use Rattle.std.proofs.Common.{◌≡◌, true, ◌&&◌, nat_le, pos, None, codes, arith}
use Rattle.std.proofs.lemmas.Bool.{and_parts, leb-true}
use Rattle.std.proofs.lemmas.Int.{ints}
use Rattle.serde_json.specs.Data.{Data}
use Rattle.serde_json.specs.Find.{get}
use Rattle.json_trees.specs.Keys.{has_only_keys}
use Rattle.json_trees.specs.Trees.{passes}
use Rattle.game_text.specs.Classes.{class_of, has_players, has_numbers, has_numbers_as, own_test}
use Rattle.game_text.specs.Shape.{document_keys, is_game_shaped, has_needed, is_shaped}
use Rattle.document_parts.specs.Scales.{game_numbers, game_fractions, scale_of}
use Rattle.game_text.specs.Names.{has_names}
use Rattle.game_text.specs.Documents.{game_tree}
use Rattle.game_text.specs.Refusals.{has_needed_numbers}
use Rattle.game_text.specs.Denominators.{tree_refusal}
use Rattle.document_parts.proofs.LeastDenominators.{least_denominator_is}
use Rattle.game_text.proofs.Passed.{passed_tests}
use Rattle.json_trees.proofs.Fractions.{written_reduced}
use Rattle.report.specs.Limits.{IsScale}
use Rattle.game_text.specs.declared.command.Command.{Command}
use Rattle.game_text.proofs.KeptTrees.{passes_there}

-- each test of a game passes
pub record IsAccepted (game : Data) : Type 0 where
  pub shaped : is_game_shaped game ≡ true
  pub players : has_players game ≡ true
  pub numbers : has_numbers game ≡ true
  pub names : has_names game ≡ true
  pub own : (own_test game).1 ≡ true

game_shaped : (command : Command) (tree : Data) → is_shaped command tree ≡ true
    → is_game_shaped (game_tree tree) ≡ true
game_shaped command tree h =
    let a =
    and_parts (has_only_keys document_keys tree && passes is_game_shaped (get (codes "game") tree))
    (has_needed command tree) h in
    passes_there is_game_shaped (get (codes "game") tree)
    (and_parts (has_only_keys document_keys tree) (passes is_game_shaped (get (codes "game") tree)) a.0).1

pub accepted : (command : Command) (tree : Data) → tree_refusal command tree ≡ None → IsAccepted (game_tree tree)
accepted command tree e =
    let passes = passed_tests command tree e in
    record {
      shaped = game_shaped command tree passes.shaped;
      players = passes.players;
      numbers = (and_parts (has_numbers (game_tree tree)) (has_needed_numbers command tree) passes.numbers).0;
      names = passes.names;
      own = passes.own;
    }

-- ---- its scale can be printed over

pub accepted_scale : (game : Data) → has_numbers game ≡ true → IsScale (pos (scale_of game))
accepted_scale game h =
    let few =
    leb-true (scale_of game) 65536
    (and_parts (nat_le (scale_of game) 65536) (has_numbers_as (scale_of game) (class_of game) game) h).0 in
    let least = least_denominator_is (game_fractions game) (written_reduced (game_numbers game)) in
    (least.positive, omega (arith, ints, few))
