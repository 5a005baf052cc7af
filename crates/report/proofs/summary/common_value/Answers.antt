use Rattle.std.proofs.Common.{◌≡◌, ℤ, pos, IfOk, subst, ◌∙◌, ◌≤ℤ◌, ◌^◌}
use mir.Syntax.{w128}
use Rattle.serde_json.specs.View.{view}
use Rattle.definitions.proofs.Casts.{cast_kept}
use Rattle.report.specs.Values.{integer_data}
use Rattle.report.proofs.LeastDenominators.{least_denominator_is, least_denominator_small}
use Rattle.report.proofs.summary.common_value.Goals as goal

pub returns : goal.returns
returns c =
    let positive = subst (λ (d : ℤ). pos 1 ≤ℤ d) c.den.ensures.value c.den.ensures.positive in
    let most = subst (λ (d : ℤ). d ≤ℤ pos (2 ^ 63)) c.den.ensures.value c.den.ensures.common in
    let kept =
    cast_kept w128 _ (least_denominator_small c.args.shares.now _ positive most c.least_den-common.ensures) in
    let same = least_denominator_is c.args.shares.now _ positive c.least_den-common.ensures in
    subst (λ (d : ℤ). IfOk c.integer_value.result (λ v. view v ≡ integer_data c.args.scale d)) (kept ∙ same)
    c.integer_value.ensures
