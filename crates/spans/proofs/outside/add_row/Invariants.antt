use Rattle.std.proofs.Common.{◌≡◌, ℕ, ◌<◌, ◌≤◌, length, ◌+ℤ◌}
use Rattle.determinants.specs.Matrix.{entry_at}
use Rattle.spans.specs.Sums.{number_at}
use Rattle.spans.proofs.outside.add_row.Given as goal

abbrev pub invariant-loop-i : goal.invariant-loop-i
invariant-loop-i l = record {
  len : length l.numbers ≡ 16;
  done : (j : ℕ) → j < l.i
      → number_at l.numbers j ≡ number_at l.fn.numbers j +ℤ entry_at 16 l.entries l.k j;
  rest : (j : ℕ) → l.i ≤ j → number_at l.numbers j ≡ number_at l.fn.numbers j;
}
