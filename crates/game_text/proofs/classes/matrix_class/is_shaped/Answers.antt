use Rattle.std.proofs.Common.{◌≡◌, codes, Bool, true, ◌&&◌, sym, ap, ◌∙◌}
use Rattle.serde_json.specs.Find.{get}
use Rattle.serde_json.specs.View.{view}
use Rattle.json_trees.specs.Keys.{has_only_keys}
use Rattle.json_trees.specs.Trees.{passes, is_array_of, is_numeric}
use Rattle.game_text.specs.Classes.MatrixClass.{matrix_keys}
use Rattle.document_parts.specs.Version.{has_texts}
use Rattle.game_text.proofs.classes.matrix_class.is_shaped.Goals as goal

pub returns-then-has_only_keys : goal.returns-then-has_only_keys
returns-then-has_only_keys c =
    let game = view c.args.game.now in
    let keys : has_only_keys matrix_keys game ≡ true = sym c.has_only_keys.ensures ∙ c.if-has_only_keys.true in
    c.has_rows.ensures
    ∙ ap (λ (t : Bool). passes (is_array_of (is_array_of (is_numeric t))) (get (codes "matrix") game)) c.requires
    ∙ ap
    (λ (b : Bool). b
    && passes (is_array_of (is_array_of (is_numeric (has_texts game)))) (get (codes "matrix") game)) (sym keys)
