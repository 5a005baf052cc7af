use Rattle.std.proofs.Common.{pos, ◌*ℤ◌, FitsSigned, ap, sym, ◌∙◌, subst, rules}
use Rattle.std.proofs.lemmas.Int.{to_z-of_z}
use mir.Syntax.{w128}
use Rattle.json_trees.specs.LowestTerms.{in_lowest_terms}
use Rattle.json_trees.proofs.LowestTerms.{is_lowest}
use Rattle.kohlberg.proofs.Kept.{kept}
use Rattle.fractions.specs.Fraction.{IsRatio}
use Rattle.fractions.proofs.Ratios.{product_positive}
use Rattle.report.specs.Limits.{IsScale}
use Rattle.report.proofs.LowestTexts.{scaled_fits}
use Rattle.report.proofs.values.over.Goals as goal

pub overflow_mul-den : goal.overflow_mul-den
overflow_mul-den c =
    let fk : FitsSigned w128 c.from.result = search rules in
    let scale : IsScale c.from.result = subst IsScale (sym c.from.ensures) c.number.ensures.within in
    rw (kept c.args.den c.ranges.den.sfits, to_z-of_z w128 c.from.result fk)
    (scaled_fits c.args.den c.from.result c.requires scale)

pub ratio-requires : goal.ratio-requires
ratio-requires c =
    let fk : FitsSigned w128 c.from.result = search rules in
    let scale : IsScale c.from.result = subst IsScale (sym c.from.ensures) c.number.ensures.within in
    rw (
      kept c.args.den c.ranges.den.sfits,
      to_z-of_z w128 c.from.result fk,
      to_z-of_z w128 (c.args.den *ℤ c.from.result) (scaled_fits c.args.den c.from.result c.requires scale),
    )
    (product_positive c.args.den c.from.result c.requires.0 scale.0)

pub returns : goal.returns
returns c =
    let fk : FitsSigned w128 c.from.result = search rules in
    let scale : IsScale c.from.result = subst IsScale (sym c.from.ensures) c.number.ensures.within in
    let ratio : IsRatio c.ratio.result c.args.num (c.args.den *ℤ c.from.result) =
    rw (
      kept c.args.num c.ranges.num.sfits,
      kept c.args.den c.ranges.den.sfits,
      to_z-of_z w128 c.from.result fk,
      to_z-of_z w128 (c.args.den *ℤ c.from.result) (scaled_fits c.args.den c.from.result c.requires scale),
    ) at
    c.ratio.ensures in
    is_lowest c.ratio.result c.args.num (c.args.den *ℤ c.from.result)
    (product_positive c.args.den c.from.result c.requires.0 scale.0) ratio
    ∙ ap (λ k. in_lowest_terms c.args.num (c.args.den *ℤ k)) (c.from.ensures ∙ ap pos c.number.ensures.value)
