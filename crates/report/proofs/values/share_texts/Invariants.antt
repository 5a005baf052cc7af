use Rattle.std.proofs.Common.{◌≡◌, map, take}
use Rattle.serde_json.specs.View.{view}
use Rattle.report.specs.ShareLists.{share_data}
use Rattle.report.proofs.values.share_texts.Given as goal

abbrev pub invariant-loop-i : goal.invariant-loop-i
invariant-loop-i l =
    map view l.texts.items ≡ map (share_data l.scale l.is_cost l.shares.den) (take l.i l.shares.shares)
