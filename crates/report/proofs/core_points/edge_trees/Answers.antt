use Rattle.std.proofs.Common.{pos, FitsSigned, get_or, map, ap, ◌∙◌, arith, rules}
use Rattle.std.proofs.lemmas.Int.{to_z-of_z}
use mir.Syntax.{w64}
use Rattle.serde_json.specs.View.{view}
use Rattle.report.specs.BirdTrees.{edge_tree}
use Rattle.report.proofs.Lists.{mapped_more}
use Rattle.report.proofs.core_points.edge_trees.Goals as goal

pub loop-end-preserved : goal.loop-end-preserved
loop-end-preserved c =
    let edge = get_or c.args.edges.now c.loop-end.end-index (0, 0, pos 0) in
    let fits : FitsSigned w64 edge.2 = search rules in
    let tree = rw (to_z-of_z w64 edge.2 fits) at c.in_ok-edge_tree.ensures in
    ap (map view) c.in_ok-push.ensures.items
    ∙ mapped_more view (edge_tree c.args.scale) c.args.edges.now c.loop-end.trees.items c.loop-end.end-index
    (0, 0, pos 0) c.in_ok-edge_tree.field-0 (omega arith) c.loop-end.invariant tree
