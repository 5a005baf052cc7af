use Rattle.std.proofs.Common.{◌≡◌, ◌++◌, map, take}
use Rattle.serde_json.specs.View.{view}
use Rattle.document_parts.specs.Numbers.{seen}
use Rattle.document_parts.proofs.values.add_values.Given as goal

abbrev pub invariant-loop-value : goal.invariant-loop-value
invariant-loop-value l = seen l.values.items ≡ seen l.fn.values.items ++ map view (take l.value-index l.more)
