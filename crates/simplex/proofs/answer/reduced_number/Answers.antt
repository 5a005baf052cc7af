use Rattle.std.proofs.Common.{arith, FitsSigned, int_div}
use mir.Syntax.{w128}
use Rattle.std.proofs.lemmas.Int.{ints, to_z-of_z, quot_fits}
use Rattle.simplex.proofs.CommonDivisors.{quotient_is}
use Rattle.simplex.proofs.answer.reduced_number.Goals as goal

pub returns : goal.returns
returns c =
    let fw = c.ranges.number in
    let fc = c.ranges.common in
    let h = c.requires.positive in
    let q : FitsSigned w128 (int_div c.args.number c.args.common) =
    quot_fits w128 c.args.number c.args.common c.ranges.number (omega (arith, ints)) in
    simp to_z-of_z (quotient_is c.args.common c.args.number c.requires.positive c.requires.divides.divides)
