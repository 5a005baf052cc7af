use Rattle.std.proofs.Common.{codes, option_map, sym, ap, ◌∙◌}
use Rattle.serde_json.specs.Find.{get}
use Rattle.serde_json.specs.View.{view}
use Rattle.serde_json.proofs.Views.{view-Object, view-lookup}
use Rattle.game_text.proofs.reading.game_out_of.Goals as goal

pub returns-in-Object : goal.returns-in-Object
returns-in-Object c =
    ap (option_map view) c.remove.ensures.value ∙ view-lookup (codes "game") c.in-Object.members.entries
    ∙ sym (ap (get (codes "game")) (ap view c.in-Object.is ∙ view-Object c.in-Object.members))
