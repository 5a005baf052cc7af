use Rattle.std.proofs.Common.{sym, ◌∙◌}
use Rattle.serde_json.specs.View.{view}
use Rattle.document_parts.specs.Names.{names_of}
use Rattle.game_text.specs.Names.{has_names}
use Rattle.game_text.proofs.Choices.{passed_if, failed_if}
use Rattle.game_text.proofs.Chain.{behind_names, refused_by_names}
use Rattle.game_text.proofs.reading.right_game.Goals as goal

pub game_of-requires-clause-named : goal.game_of-requires-clause-named
game_of-requires-clause-named c = rw c.in-Ok-Some.field-0-is at c.in-Ok-Some.ensures.few

pub game_of-requires-clause-names : goal.game_of-requires-clause-names
game_of-requires-clause-names c =
    (passed_if (has_names (view c.args.game.now.tree.now)) (names_of (view c.args.game.now.tree.now)) c.in-Ok-Some.names
    (sym c.in-Ok-Some.field-0-is ∙ c.in-Ok-Some.ensures.names)).1

pub returns-in-Ok-Some : goal.returns-in-Ok-Some
returns-in-Ok-Some c =
    let named =
    passed_if (has_names (view c.args.game.now.tree.now)) (names_of (view c.args.game.now.tree.now)) c.in-Ok-Some.names
    (sym c.in-Ok-Some.field-0-is ∙ c.in-Ok-Some.ensures.names) in
    behind_names (view c.args.game.now.tree.now) named.0 c.game_of.result c.game_of.ensures

pub returns-in-Ok-None : goal.returns-in-Ok-None
returns-in-Ok-None c =
    refused_by_names (view c.args.game.now.tree.now)
    (failed_if (has_names (view c.args.game.now.tree.now)) (names_of (view c.args.game.now.tree.now))
    (sym c.in-Ok-None.field-0-is ∙ c.in-Ok-None.ensures.names))
