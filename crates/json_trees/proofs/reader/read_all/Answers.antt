use Rattle.std.proofs.Common.{sym, ◌∙◌}
use Rattle.json_trees.proofs.Readings.{one_found}
use Rattle.json_trees.proofs.reader.read_all.Goals as goal

pub loop-tree-preserved : goal.loop-tree-preserved
loop-tree-preserved g c =
    one_found (g.R.Reader.form c.args.reader.now) (g.R.Reader.described c.args.reader.now) _ c.args.trees.now
    c.loop-tree.tree-index c.tree-item.result c.loop-tree.found.items c.loop-tree-test.true c.tree-item.is
    c.loop-tree.invariant c.in-Some.item _ (sym c.in-Some.is ∙ c.in_ok-item.ensures) c.in_ok-push.ensures.items
