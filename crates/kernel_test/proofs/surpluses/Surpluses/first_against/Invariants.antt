use Rattle.std.proofs.Common.{◌≡◌, ℕ, ◌<◌}
use Rattle.kernel_test.specs.Tables.{number_at}
use Rattle.kernel_test.proofs.surpluses.Surpluses.first_against.Given as goal

abbrev pub invariant-loop-j : goal.invariant-loop-j
invariant-loop-j l = (k : ℕ) → l.i < k → k < l.j → number_at l.self.greatest l.i k ≡ number_at l.self.greatest k l.i
