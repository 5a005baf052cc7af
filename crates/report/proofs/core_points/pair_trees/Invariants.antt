use Rattle.std.proofs.Common.{◌≡◌, map, take}
use Rattle.serde_json.specs.View.{view}
use Rattle.report.specs.MatchingTrees.{pair_tree}
use Rattle.report.proofs.core_points.pair_trees.Given as goal

abbrev pub invariant-loop-buyer : goal.invariant-loop-buyer
invariant-loop-buyer l = map view l.trees.items ≡ map pair_tree (take l.buyer-index l.pairs)
