use Rattle.std.proofs.Common.{unsigned_abs}
use Rattle.worth_core.proofs.SharedDivisors.{IsFrontDivisor}
use Rattle.worth_core.proofs.shares.Shares.least_den.Given as goal

abbrev pub invariant-loop-z : goal.invariant-loop-z
invariant-loop-z l = IsFrontDivisor (unsigned_abs l.self-inside.den) l.z-items l.z-index l.common
