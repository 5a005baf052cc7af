use Rattle.std.proofs.Common.{◌≡◌, ◌++◌, map, take}
use Rattle.serde_json.specs.View.{view}
use Rattle.document_parts.specs.Scales.{pair_number, all_parts}
use Rattle.document_parts.specs.Numbers.{seen}
use Rattle.document_parts.proofs.values.add_seconds.Given as goal

abbrev pub invariant-loop-pair : goal.invariant-loop-pair
invariant-loop-pair l =
    seen l.values.items ≡ seen l.fn.values.items ++ all_parts pair_number (map view (take l.pair-index l.pairs))
