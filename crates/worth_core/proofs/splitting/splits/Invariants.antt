use Rattle.std.proofs.Common.{◌≡◌, ◌&&◌, not}
use Rattle.definitions.specs.Coalitions.{has_player, some_below}
use Rattle.worth_core.proofs.splitting.splits.Given as goal

abbrev pub invariant-loop-i : goal.invariant-loop-i
invariant-loop-i l =
    (l.holds ≡ some_below l.i (λ i. has_player l.free i && has_player l.s i))
    × (l.lacks ≡ some_below l.i (λ i. has_player l.free i && not (has_player l.s i)))
