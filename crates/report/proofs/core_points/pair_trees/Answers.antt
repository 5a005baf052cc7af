use Rattle.std.proofs.Common.{map, ap, ◌∙◌, arith}
use Rattle.serde_json.specs.View.{view}
use Rattle.report.specs.MatchingTrees.{pair_tree}
use Rattle.report.proofs.Lists.{mapped_more}
use Rattle.report.proofs.core_points.pair_trees.Goals as goal

pub loop-buyer-preserved : goal.loop-buyer-preserved
loop-buyer-preserved c =
    ap (map view) c.in_ok-push.ensures.items
    ∙ mapped_more view pair_tree c.args.pairs.now c.loop-buyer.trees.items c.loop-buyer.buyer-index (0, 0)
    c.in_ok-pair_tree.field-0 (omega arith) c.loop-buyer.invariant c.in_ok-pair_tree.ensures
