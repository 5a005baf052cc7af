use Rattle.std.proofs.Common.{◌≡◌, ◌++◌, map, take}
use Rattle.serde_json.specs.View.{view}
use Rattle.json_trees.specs.Trees.{parts}
use Rattle.document_parts.specs.Scales.{all_parts}
use Rattle.document_parts.specs.Numbers.{seen}
use Rattle.document_parts.proofs.values.add_rows.Given as goal

abbrev pub invariant-loop-row : goal.invariant-loop-row
invariant-loop-row l =
    seen l.values.items ≡ seen l.fn.values.items ++ all_parts parts (map view (take l.row-index l.rows))
