use Rattle.separation.proofs.pricing.first_found.Goals as goal

pub invariant_of-first_by_sums-clause-are_sums : goal.invariant_of-first_by_sums-clause-are_sums
invariant_of-first_by_sums-clause-are_sums g c = record {
  few = c.args.program.now.few;
  low_is = c.wide-tables.ensures.low;
  high_is = c.wide-tables.ensures.high;
  room = λ t e. absurd cc;
}
