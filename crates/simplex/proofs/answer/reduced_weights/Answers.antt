use Rattle.std.proofs.Common.{rules, arith, ◌*◌, ◌<◌, pos, length, length-set, ◌∙◌, FitsSigned, slice_index_or}
use mir.Syntax.{w128}
use Rattle.std.proofs.lemmas.Int.{to_z-of_z}
use Rattle.simplex.proofs.CommonDivisors.{next_reduced, is_multiple}
use Rattle.simplex.proofs.answer.reduced_weights.Goals as goal

pub reduced_number-requires-clause-divides : goal.reduced_number-requires-clause-divides
reduced_number-requires-clause-divides c =
    let fc = c.ranges.common in
    let f : FitsSigned w128 (slice_index_or c.args.tracked.now (32 * c.loop-k.k) (pos 0)) = search rules in
    simp to_z-of_z (is_multiple c.args.tracked.now c.args.n c.args.den c.args.common c.loop-k.k c.requires.common
    c.loop-k-test.true)

pub loop-k-preserved : goal.loop-k-preserved
loop-k-preserved c =
    let fc = c.ranges.common in
    let f : FitsSigned w128 (slice_index_or c.args.tracked.now (32 * c.loop-k.k) (pos 0)) = search rules in
    let fs : FitsSigned w128 c.reduced_number.result = search rules in
    let e = simp to_z-of_z at c.reduced_number.ensures in
    let done = simp to_z-of_z at c.loop-k.invariant.done in
    let k = c.loop-k.k in
    let len : k < length c.loop-k.weights = rw c.loop-k.invariant.len (omega arith) in
    simp to_z-of_z (record {
      len = length-set c.loop-k.weights k c.reduced_number.result ∙ c.loop-k.invariant.len;
      done = next_reduced c.args.tracked.now c.loop-k.weights c.args.common k c.reduced_number.result len e done;
    })
