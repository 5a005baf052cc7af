use Rattle.std.proofs.Common.{◌≡◌, ◌*◌, ◌^◌, ◌≤◌, ◌+ℤ◌, drop, unsigned_abs}
use Rattle.definitions.specs.Sums.{weighted_sum}
use Rattle.balanced_collections.proofs.weighted_worth.Given as goal

abbrev pub invariant-loop-coalition : goal.invariant-loop-coalition
invariant-loop-coalition g l =
    (l.sum +ℤ weighted_sum (g.W.Worth.game l.game).worth (drop l.coalition-index l.weights)
    ≡ weighted_sum (g.W.Worth.game l.game).worth l.weights) × (unsigned_abs l.sum ≤ l.coalition-index * 2 ^ 110)
