use Rattle.std.proofs.Common.{unsigned_abs}
use Rattle.simplex.proofs.CommonDivisors.{CommonSoFar}
use Rattle.simplex.proofs.answer.common_of.Given as goal

abbrev pub invariant-loop-k : goal.invariant-loop-k
invariant-loop-k l = CommonSoFar (unsigned_abs l.fn.den) l.tracked l.k l.common
