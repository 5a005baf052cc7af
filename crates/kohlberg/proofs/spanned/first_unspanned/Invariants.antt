use Rattle.std.proofs.Common.{ℕ, ◌<◌}
use Rattle.definitions.specs.Coalitions.{singleton}
use Rattle.definitions.specs.Certificates.{InSpan}
use Rattle.spans.specs.Span.{IsKept}
use Rattle.kohlberg.proofs.spanned.first_unspanned.Given as goal

abbrev pub invariant-loop-i : goal.invariant-loop-i
invariant-loop-i l = (j : ℕ) → j < l.i → InSpan l.n (IsKept l.span.kept) (singleton j)
