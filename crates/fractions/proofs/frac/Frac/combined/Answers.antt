use Rattle.std.proofs.Common.{FitsSigned, rules}
use Rattle.std.proofs.lemmas.Int.{to_z-of_z}
use mir.Syntax.{w128}
use Rattle.fractions.proofs.Operations.{common_denominator_positive, combined_ratio}
use Rattle.fractions.proofs.frac.Frac.combined.Goals as goal

pub ratio-requires : goal.ratio-requires
ratio-requires c =
    let known = c.in_ok-left.ensures {u = tt} in
    let d : FitsSigned w128 c.in_ok-left.den = search rules in
    simp to_z-of_z
    (common_denominator_positive c.args.self.now c.args.other.now _ _ _ known.self_positive known.other_positive
    known.value.1)

pub returns-clause-value : goal.returns-clause-value
returns-clause-value c =
    let known = c.in_ok-left.ensures {u = tt} in
    let l : FitsSigned w128 c.in_ok-left.left = search rules in
    let r : FitsSigned w128 c.in_ok-left.right = search rules in
    let d : FitsSigned w128 c.in_ok-left.den = search rules in
    let n : FitsSigned w128 c.in_ok-num.num = search rules in
    let total = simp to_z-of_z at (c.in_ok-num.ensures {u = tt}) in
    combined_ratio c.args.subtracts c.args.self.now c.args.other.now c.ratio.result _ _ _ _ known.self_positive
    known.other_positive known.value.1 total.1 (simp to_z-of_z at c.ratio.ensures)
