use Rattle.std.proofs.Common.{◌≡◌, map, take}
use Rattle.serde_json.specs.View.{view}
use Rattle.report.specs.Certificates.{weight_pair}
use Rattle.report.proofs.objects.weight_pairs.Given as goal

abbrev pub invariant-loop-key : goal.invariant-loop-key
invariant-loop-key g l = map view l.trees.items ≡ map (weight_pair g.K.Weighted.tree) (take l.key-index l.pairs)
