use Rattle.std.proofs.Common.{◌≡◌, map, take}
use Rattle.serde_json.specs.View.{view}
use Rattle.report.specs.BirdTrees.{edge_tree}
use Rattle.report.proofs.core_points.edge_trees.Given as goal

abbrev pub invariant-loop-end : goal.invariant-loop-end
invariant-loop-end l = map view l.trees.items ≡ map (edge_tree l.scale) (take l.end-index l.edges)
