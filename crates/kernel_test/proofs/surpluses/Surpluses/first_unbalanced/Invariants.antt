use Rattle.std.proofs.Common.{◌≡◌, ℕ, ◌<◌}
use Rattle.kernel_test.specs.Tables.{number_at}
use Rattle.kernel_test.proofs.surpluses.Surpluses.first_unbalanced.Given as goal

abbrev pub invariant-loop-i : goal.invariant-loop-i
invariant-loop-i l =
    (a b : ℕ) → a < l.i → a < b → b < l.n → number_at l.self.greatest a b ≡ number_at l.self.greatest b a
