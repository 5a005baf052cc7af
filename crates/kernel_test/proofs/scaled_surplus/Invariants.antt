use Rattle.std.proofs.Common.{◌≡◌, ◌-◌, length}
use Rattle.definitions.specs.Games.{amount, excess}
use Rattle.definitions.specs.Prekernel.{holds_without}
use Rattle.kernel_test.proofs.Greatest.{IsGreatestBelow}
use Rattle.kernel_test.proofs.scaled_surplus.Given as goal

abbrev pub invariant-loop-s : goal.invariant-loop-s
invariant-loop-s g l = record {
  greatest : IsGreatestBelow (holds_without l.i l.j) (excess (g.W.Worth.game l.game) l.x) (length l.yielded) l.most;
  paid : l.paid ≡ amount l.x (length l.yielded - 1);
}
