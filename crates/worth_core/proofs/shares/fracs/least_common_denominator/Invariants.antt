use Rattle.std.proofs.Common.{◌≤◌, ◌^◌}
use Rattle.worth_core.proofs.LeastMultiples.{IsFrontDenominator}
use Rattle.worth_core.proofs.shares.fracs.least_common_denominator.Given as goal

abbrev pub invariant-loop-f : goal.invariant-loop-f
invariant-loop-f l = record {
  front : IsFrontDenominator l.fractions l.f-index l.den;
  small : l.den ≤ 2 ^ 63;
}
