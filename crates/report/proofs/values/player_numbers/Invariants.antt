use Rattle.std.proofs.Common.{◌≡◌, map, take}
use Rattle.serde_json.specs.View.{view}
use Rattle.report.specs.Values.{player_data}
use Rattle.report.proofs.values.player_numbers.Given as goal

abbrev pub invariant-loop-i : goal.invariant-loop-i
invariant-loop-i l = map view l.numbers.items ≡ map player_data (take l.i-index l.i-items)
