use Rattle.std.proofs.Common.{◌∙◌, arith}
use Rattle.std.proofs.lemmas.Int.{ints}
use mir.Syntax.{w64, w128}
use Rattle.definitions.proofs.Casts.{cast_kept, difference_kept}
use Rattle.plain_programs.proofs.SmallExcesses.{excess-smaller}
use Rattle.plain_programs.specs.Plain.{game_of}
use Rattle.plain_programs.proofs.table.excess.Goals as goal

pub returns-clause-value : goal.returns-clause-value
returns-clause-value c =
    let den = cast_kept w128 c.den.result (omega (arith, ints)) in
    let worth = cast_kept w64 c.worth.result (omega (arith, c.worth.ensures.small)) in
    let kept =
    difference_kept c.product.result c.amount.result (omega (arith, c.product.ensures.small))
    (omega (arith, c.amount.ensures.small)) in
    kept ∙ cc

pub returns-clause-small : goal.returns-clause-small
returns-clause-small c =
    let kept =
    difference_kept c.product.result c.amount.result (omega (arith, c.product.ensures.small))
    (omega (arith, c.amount.ensures.small)) in
    rw kept (omega (arith, ints, c.product.ensures.small, c.amount.ensures.small))

pub returns-clause-smaller : goal.returns-clause-smaller
returns-clause-smaller c =
    let g = game_of c.args.table.now in
    let s = c.args.coalition in
    let kept =
    difference_kept c.product.result c.amount.result (omega (arith, c.product.ensures.small))
    (omega (arith, c.amount.ensures.small)) in
    let value = returns-clause-value c in
    let worth = c.worth.ensures.small in
    λ small. rw value
    (excess-smaller g c.args.point.now s (rw c.worth.ensures.value at worth)
    (rw c.den.ensures.value at c.den.ensures.positive) c.amount.ensures.few small)
