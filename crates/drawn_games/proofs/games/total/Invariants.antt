use Rattle.std.proofs.Common.{◌≡◌, ◌*◌, ◌^◌, ◌≤◌, take, unsigned_abs}
use Rattle.std.specs.List.{sum_by}
use Rattle.drawn_games.proofs.games.total.Given as goal

abbrev pub invariant-loop-claim : goal.invariant-loop-claim
invariant-loop-claim l =
    (l.total ≡ sum_by unsigned_abs (take l.claim-index l.claims)) × (l.total ≤ l.claim-index * 2 ^ 20)
