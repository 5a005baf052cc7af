use Rattle.separation.proofs.pricing.some_by_wide_sums.Goals as goal

pub invariant_of-some_by_sums-clause-are_sums : goal.invariant_of-some_by_sums-clause-are_sums
invariant_of-some_by_sums-clause-are_sums g c = record {
  few = c.args.program.now.few;
  low_is = c.wide-tables.ensures.low;
  high_is = c.wide-tables.ensures.high;
  room = λ t e. absurd cc;
}
