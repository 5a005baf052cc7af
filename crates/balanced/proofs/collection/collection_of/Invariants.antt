use Rattle.std.proofs.Common.{◌≡◌, drop}
use Rattle.kohlberg.specs.Pairs.{placed_behind, placed}
use Rattle.balanced.proofs.collection.collection_of.Given as goal

abbrev pub invariant-loop-id : goal.invariant-loop-id
invariant-loop-id l =
    (l.id-items ≡ l.best.weights.items)
    × (placed_behind l.weights.items (drop l.id-index l.id-items) ≡ placed l.best.weights.items)
