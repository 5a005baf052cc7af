use Rattle.std.proofs.Common.{◌≡◌, ◌*◌, ◌^◌, ◌≤◌, unsigned_abs}
use Rattle.definitions.specs.Coalitions.{sum_over}
use Rattle.definitions.specs.Games.{share}
use Rattle.plain_programs.proofs.table.Point.amount.Given as goal

abbrev pub invariant-loop-player : goal.invariant-loop-player
invariant-loop-player l =
    (l.sum ≡ sum_over l.player (share l.self) l.coalition) × (unsigned_abs l.sum ≤ l.player * 2 ^ 84)
