use Rattle.std.proofs.Common.{◌≡◌, ℕ, ◌<◌, ◌&&◌, nat_lt}
use Rattle.definitions.specs.Prekernel.{holds_without}
use Rattle.kernel_test.specs.Tables.{number_at, raised_where, AreFloors}
use Rattle.kernel_test.proofs.surpluses.Surpluses.raise.Given as goal

abbrev pub invariant-loop-i : goal.invariant-loop-i
invariant-loop-i l = record {
  rows : (a j : ℕ) → a < 16 → j < 16
      → number_at l.self.greatest a j
      ≡ raised_where (nat_lt a l.i && holds_without a j l.s) (number_at l.fn.self.greatest a j) l.excess;
  floors : AreFloors l.self.greatest l.self.least;
}
