use Rattle.std.proofs.Common.{◌≡◌, ◌<◌, length, length-set, to_z, of_z, arith, ◌∙◌, refl}
use mir.Syntax.{w128}
use Rattle.separation.specs.Values.{IsEight}
use Rattle.separation.proofs.Eights.{IsEight-empty}
use Rattle.spans.proofs.EightSums.{filled_below}
use Rattle.separation.proofs.sums.table.Goals as goal
use Rattle.definitions.proofs.Casts.{cast_kept}

pub loop-s-init : goal.loop-s-init
loop-s-init c = record {
  len = refl;
  done = λ k lt.
      let first : k ≡ 0 = omega arith in rw first (IsEight-empty c.args.m.now.num.items c.args.n c.args.first);
}

pub loop-s-preserved : goal.loop-s-preserved
loop-s-preserved c =
    let P = IsEight c.args.m.now.num.items c.args.n c.args.first in
    let is = c.next_eight.ensures in
    let e : to_z w128 (of_z w128 c.next_eight.result) ≡ c.next_eight.result =
    cast_kept w128 c.next_eight.result (omega (arith, is.small)) in
    let len : c.loop-s.s < length c.loop-s.sums = rw c.loop-s.invariant.len c.loop-s-test.true in
    rw e (record {
      len = length-set c.loop-s.sums c.loop-s.s c.next_eight.result ∙ c.loop-s.invariant.len;
      done =
          filled_below P c.loop-s.sums c.loop-s.s c.next_eight.result len
          (record { value = is.value; small = is.small }) c.loop-s.invariant.done;
    })
