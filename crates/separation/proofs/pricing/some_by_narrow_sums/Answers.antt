use Rattle.std.proofs.Common.{◌^◌, le_trans}
use lib.Dec.{lit≤}
use Rattle.separation.proofs.Eights.{IsEight-narrow, narrow_has_room}
use Rattle.separation.proofs.pricing.some_by_narrow_sums.Goals as goal

pub invariant_of-some_by_sums-clause-are_sums : goal.invariant_of-some_by_sums-clause-are_sums
invariant_of-some_by_sums-clause-are_sums g c =
    let p = c.args.program.now in
    let num = c.args.m.now.num.items in
    let numbers = c.args.numbers.now in
    let narrow = c.requires.numbers in
    let tables = c.new-tables.ensures in
    record {
      few = p.few;
      low_is =
          rw tables.low (λ s lt. IsEight-narrow num p.players 0 s numbers _ narrow (c.fill_sums.ensures s lt));
      high_is =
          rw tables.high (λ s lt. IsEight-narrow num p.players 8 s numbers _ narrow (c.fill_sums-2.ensures s lt));
      room =
          narrow_has_room _ (rw tables.low
          (λ k lt. le_trans ((c.fill_sums.ensures k lt).small (2 ^ 56) (λ i. (narrow i).1)) (lit≤ tt)));
    }
