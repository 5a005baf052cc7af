use Rattle.std.proofs.Common.{◌≡◌, ◌≤◌, ◌+◌, ◌++◌, map, drop, length}
use Rattle.serde_json.specs.View.{view}
use Rattle.json_trees.specs.Trees.{parts}
use Rattle.json_trees.proofs.Values.{rest}
use Rattle.document_parts.specs.Scales.{all_parts}
use Rattle.document_parts.specs.Numbers.{in_rows}
use Rattle.document_parts.proofs.values.in_rows.Given as goal

abbrev pub invariant-loop-array : goal.invariant-loop-array
invariant-loop-array l = record {
  rows : map (λ row. row.items) l.rows.items ++ in_rows (rest l.arrays l.array-index) (drop l.from l.numbers)
      ≡ in_rows (map view l.arrays) l.numbers;
  enough : l.from + length (all_parts parts (rest l.arrays l.array-index)) ≤ length l.numbers;
}
