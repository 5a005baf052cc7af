use Rattle.std.proofs.Common.{Some, refl, sym, ◌∙◌}
use Rattle.serde_json.specs.View.{view}
use Rattle.game_text.specs.declared.classes.Class.TheVariants as class
use Rattle.game_text.specs.declared.classes.Game.TheVariants as games
use Rattle.document_parts.specs.Scales.{scale_of}
use Rattle.game_text.proofs.Built.{built_if, refused_if}
use Rattle.game_text.proofs.classes.table_class.worths_of.Goals as goal

pub returns : goal.returns
returns c =
    built_if (Some class.Table) (scale_of (view c.args.game.now)) (view c.args.game.now) c.requires.class refl
    games.Table _ c.in-Some.worths
    (sym c.in-Some.is ∙ c.in_ok-worths.ensures) refl

pub returns-in_default : goal.returns-in_default
returns-in_default c =
    refused_if (Some class.Table) (scale_of (view c.args.game.now)) (view c.args.game.now) c.requires.class refl _
    (sym c.in_default.is ∙ c.in_ok-worths.ensures)
