use Rattle.std.proofs.Common.{◌≡◌, ◌*◌, pos, inl, inr, arith, slice_index_or, to_z, of_z, rules}
use mir.Syntax.{w64}
use Rattle.definitions.proofs.Cases.{last_or_less_of}
use Rattle.definitions.proofs.Ring.{linear}
use Rattle.separation.proofs.tables.least_of.Goals as goal

pub loop-k-init : goal.loop-k-init
loop-k-init c =
    let first = slice_index_or c.args.low.now (64 * c.args.quarter) (pos 0) in
    let whole : to_z w64 (of_z w64 first) ≡ first = search rules in
    record {
      least = λ j lower upper. absurd (omega arith);
      attained = λ y bounds.
          rw whole (bounds (64 * c.args.quarter) (omega arith) (omega arith));
    }

pub loop-k-preserved : goal.loop-k-preserved
loop-k-preserved c =
    let low = c.args.low.now in
    let inv = c.loop-k.invariant in
    let less = c.lesser-least.ensures in
    let first = less.first in
    let here = slice_index_or low c.loop-k.k (pos 0) in
    let whole : to_z w64 (of_z w64 here) ≡ here = search rules in
    let kept : to_z w64 (of_z w64 c.lesser-least.result) ≡ c.lesser-least.result = search rules in
    let second = rw whole at less.second in
    let either =
    rw whole at
    less.either in
    rw kept (record {
      least = λ j lower lt. elim (last_or_less_of j c.loop-k.k lt) [
        | inl same ↦ rw same second
        | inr before ↦
            let older = inv.least j lower before in
            omega (arith, linear)
      ];
      attained = λ y bounds. elim either [
        | inl older ↦ rw older (inv.attained y bounds)
        | inr last ↦ rw last
            (bounds c.loop-k.k c.loop-k.auto.k (omega (arith, c.loop-k-test.true)))
      ];
    })

pub returns : goal.returns
returns c =
    let inv = c.loop-k.invariant in
    record {
      least = λ j lower upper. inv.least j lower (omega arith);
      attained = inv.attained;
    }
