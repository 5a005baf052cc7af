use Rattle.std.proofs.Common.{rules, arith, ◌*◌, ◌<◌, ◌^◌, pos, unsigned_abs, FitsSigned, slice_index_or, to_z}
use mir.Syntax.{w128}
use Rattle.std.proofs.lemmas.Int.{ints, to_z-of_z, to_z_pos}
use Rattle.simplex.proofs.CommonDivisors.{common_start, common_next, common_end}
use Rattle.simplex.proofs.answer.common_of.Goals as goal

pub loop-k-init : goal.loop-k-init
loop-k-init c =
    let fd = c.ranges.den in
    let e = simp to_z-of_z at c.unsigned_abs-common.ensures.value in
    let h = c.requires.positive in
    let p : 0 < unsigned_abs c.args.den = omega (arith, ints) in
    simp to_z-of_z
    (common_start (unsigned_abs c.args.den) c.args.tracked.now c.unsigned_abs-common.result e p c.requires.small)

pub loop-k-preserved : goal.loop-k-preserved
loop-k-preserved c =
    let fd = c.ranges.den in
    let f : FitsSigned w128 (slice_index_or c.args.tracked.now (32 * c.loop-k.k) (pos 0)) = search rules in
    let e = simp to_z-of_z at c.unsigned_abs.ensures.value in
    let i = simp to_z-of_z at c.loop-k.invariant in
    simp to_z-of_z
    (common_next (unsigned_abs c.args.den) c.args.tracked.now c.loop-k.k c.loop-k.common c.unsigned_abs.result
    c.gcd-common.result e c.gcd-common.ensures.greatest i)

pub returns : goal.returns
returns c =
    let fd = c.ranges.den in
    let i = simp to_z-of_z at c.loop-k.invariant in
    let s = i.small in
    let small : c.loop-k.common < 2 ^ 127 = omega arith in
    common_end c.args.den c.args.tracked.now c.args.n c.loop-k.k c.loop-k.common (to_z w128 c.loop-k.common)
    (to_z_pos w128 c.loop-k.common small) (omega arith) (omega arith) i
