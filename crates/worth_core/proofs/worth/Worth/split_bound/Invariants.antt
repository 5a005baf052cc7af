use Rattle.std.proofs.Common.{◌≡◌, ◌-◌, length}
use Rattle.definitions.specs.Games.{amount}
use Rattle.worth_core.proofs.SplitScan.{IsGreatestBelow}
use Rattle.worth_core.proofs.worth.Worth.split_bound.Given as goal

abbrev pub invariant-loop-s : goal.invariant-loop-s
invariant-loop-s g l =
    IsGreatestBelow (g.Self.Worth.game l.self) l.x l.free (length l.yielded) l.most
    × (l.paid ≡ amount l.x (length l.yielded - 1))
