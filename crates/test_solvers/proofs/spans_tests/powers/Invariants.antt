use Rattle.std.proofs.Common.{◌≡◌, ℕ, ◌≤◌, ◌^◌, length, unsigned_abs}
use Rattle.spans.specs.Sums.{number_at}
use Rattle.test_solvers.proofs.spans_tests.powers.Given as goal

abbrev pub invariant-loop-i : goal.invariant-loop-i
invariant-loop-i l = record {
  count : length l.powers ≡ 16;
  small : (j : ℕ) → unsigned_abs (number_at l.powers j) ≤ 2 ^ 58;
}
