use Rattle.std.proofs.Common.{◌≡◌, ◌*◌, ◌^◌, ◌≤◌, unsigned_abs}
use Rattle.definitions.specs.Coalitions.{sum_over}
use Rattle.definitions.specs.Games.{share}
use Rattle.worth_core.proofs.shares.Shares.sum_of.Given as goal

abbrev pub invariant-loop-i : goal.invariant-loop-i
invariant-loop-i l =
    (l.sum ≡ sum_over l.i (share l.self) l.s) × (unsigned_abs l.sum ≤ l.i * 2 ^ 110)
