use Rattle.std.proofs.Common.{rules, FitsSigned}
use mir.Syntax.{w128}
use Rattle.std.proofs.lemmas.Int.{to_z-of_z}
use Rattle.determinants.specs.Matrix.{weight_at}
use Rattle.simplex.proofs.answer.answer_of.Goals as goal

pub reduced_number-requires-clause-divides : goal.reduced_number-requires-clause-divides
reduced_number-requires-clause-divides c =
    let fd : FitsSigned w128 c.args.work.now.den = search rules in
    let fc : FitsSigned w128 c.common_of-common.result = search rules in
    let h = simp to_z-of_z at c.common_of-common.ensures in
    simp to_z-of_z (record { divides = h.den })

pub returns-clause-weights : goal.returns-clause-weights
returns-clause-weights c =
    let fd : FitsSigned w128 c.args.work.now.den = search rules in
    let fc : FitsSigned w128 c.common_of-common.result = search rules in
    let fs : FitsSigned w128 c.reduced_number.result = search rules in
    let h = simp to_z-of_z at c.common_of-common.ensures in
    let e = simp to_z-of_z at c.reduced_number.ensures in
    let s = simp to_z-of_z at c.reduced_weights-reduced.ensures in
    simp to_z-of_z (record {
      common = c.common_of-common.result;
      reduced = weight_at c.reduced_weights-reduced.result;
      is_common = h;
      den_is = e;
      reduced_are = s;
      weights_are = c.weights_from.ensures;
    })
