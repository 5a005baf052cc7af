use Rattle.std.proofs.Common.{map, ap, ◌∙◌, arith}
use Rattle.serde_json.specs.View.{view}
use Rattle.report.specs.Values.{player_data}
use Rattle.report.proofs.Lists.{mapped_more}
use Rattle.report.proofs.values.player_numbers.Goals as goal

pub loop-i-preserved : goal.loop-i-preserved
loop-i-preserved c =
    ap (map view) c.in_ok-push.ensures.items
    ∙ mapped_more view player_data c.as_slice-i-items.result.now c.loop-i.numbers.items c.loop-i.i-index 0
    c.player_value.result (omega arith) c.loop-i.invariant c.player_value.ensures
