use Rattle.std.proofs.Common.{◌≡◌, map, take}
use Rattle.serde_json.specs.View.{view}
use Rattle.report.specs.Certificates.{level_tree}
use Rattle.report.proofs.nucleolus.level_trees.Given as goal

abbrev pub invariant-loop-level : goal.invariant-loop-level
invariant-loop-level l = map view l.trees.items ≡ map (level_tree l.scale) (take l.level-index l.levels)
