use Rattle.std.proofs.Common.{◌++◌, ap, ◌∙◌}
use Rattle.json_trees.specs.Trees.{parts}
use Rattle.document_parts.specs.Numbers.{seen}
use Rattle.document_parts.proofs.PartsRead.{parts_more}
use Rattle.document_parts.proofs.values.add_rows.Goals as goal

pub loop-row-preserved : goal.loop-row-preserved
loop-row-preserved c =
    parts_more parts c.args.rows.now c.loop-row.row-index c.row-item.result (seen c.args.values.now.items)
    (seen c.loop-row.values.items) (seen c.add_values.new.values.items) c.loop-row-test.true c.row-item.is
    c.loop-row.invariant
    (c.in_ok-add_values.ensures ∙ ap (λ l. seen c.loop-row.values.items ++ l) c.parts.ensures)
