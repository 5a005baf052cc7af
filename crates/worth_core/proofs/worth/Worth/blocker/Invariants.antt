use Rattle.std.proofs.Common.{◌≡◌, ◌-◌, length}
use Rattle.definitions.specs.Games.{amount}
use Rattle.worth_core.proofs.Scan.{IsBestBelow}
use Rattle.worth_core.proofs.worth.Worth.blocker.Given as goal

abbrev pub invariant-loop-s : goal.invariant-loop-s
invariant-loop-s g l =
    IsBestBelow (g.Self.Worth.game l.self) l.x (length l.yielded) l.best.coalition l.best.excess
    × (l.paid ≡ amount l.x (length l.yielded - 1))
