use Rattle.std.proofs.Common.{◌≡◌, ℕ, ◌-◌, ◌<◌, length}
use Rattle.definitions.specs.Games.{amount, excess}
use Rattle.definitions.specs.Prekernel.{holds_without}
use Rattle.kernel_test.specs.Tables.{number_at, AreFloors}
use Rattle.kernel_test.proofs.Greatest.{IsGreatestBelow}
use Rattle.kernel_test.proofs.surpluses.Surpluses.of.Given as goal

abbrev pub invariant-loop-s : goal.invariant-loop-s
invariant-loop-s g l = record {
  greatest : (i j : ℕ) → i < 16 → j < 16
      → IsGreatestBelow (holds_without i j) (excess (g.W.Worth.game l.game) l.x) (length l.yielded)
      (number_at l.surpluses.greatest i j);
  floors : AreFloors l.surpluses.greatest l.surpluses.least;
  paid : l.paid ≡ amount l.x (length l.yielded - 1);
}
