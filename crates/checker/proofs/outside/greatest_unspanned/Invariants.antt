use Rattle.std.proofs.Common.{◌≡◌, ◌-◌, length}
use Rattle.definitions.specs.Games.{amount}
use Rattle.coalitions.specs.GrayOrder.{gray_mask}
use Rattle.worth_core.proofs.TopScan.{IsTop}
use Rattle.checker.proofs.GrayScan.{IsMarked}
use Rattle.checker.proofs.outside.greatest_unspanned.Given as goal

abbrev pub invariant-loop-mask : goal.invariant-loop-mask
invariant-loop-mask g l = record {
  paid : l.paid ≡ amount l.shares (gray_mask (length l.yielded - 1));
  top : IsTop l.measure (g.W.Worth.game l.game) l.shares (IsMarked l.outside) gray_mask (length l.yielded) l.most;
}
