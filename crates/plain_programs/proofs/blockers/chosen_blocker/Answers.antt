use Rattle.std.proofs.Common.{◌≡◌, ◌<◌, ◌^◌, arith, sym, ap, ◌∙◌, to_z, of_z}
use Rattle.std.proofs.lemmas.Int.{ints}
use mir.Syntax.{w128}
use Rattle.definitions.proofs.Casts.{cast_kept}
use Rattle.definitions.proofs.Scans.{below-more, none_blocks, IsChosenBlocker-first, some_greatest}
use Rattle.definitions.specs.Games.{excess}
use Rattle.plain_programs.specs.Plain.{game_of}
use Rattle.plain_programs.proofs.blockers.chosen_blocker.Goals as goal

pub returns-then-greatest-le0 : goal.returns-then-greatest-le0
returns-then-greatest-le0 c =
    let greatest = c.greatest_excess-greatest in
    let kept = cast_kept w128 greatest.result (omega (arith, greatest.ensures.small)) in
    none_blocks (game_of c.args.table.now) c.args.point.now greatest.result greatest.ensures.value
    (omega (arith, ints, kept))

pub loop-coalition-preserved : goal.loop-coalition-preserved
loop-coalition-preserved c =
    let f = excess (game_of c.args.table.now) c.args.point.now in
    let greatest = c.greatest_excess-greatest in
    let s = c.loop-coalition.coalition in
    let within : s < 2 ^ c.args.table.now.players = omega (arith, c.coalitions-coalition-end.ensures.count) in
    let kept = cast_kept w128 greatest.result (omega (arith, greatest.ensures.small)) in
    let differs =
    λ (e : f s ≡ greatest.result). c.if-excess-greatest.false (ap (of_z w128) (c.excess.ensures.value ∙ e)) in
    rw kept
    (below-more f s greatest.result (rw kept at c.loop-coalition.invariant) (greatest.ensures.value.1 s within)
    differs)

pub returns-then-excess-greatest : goal.returns-then-excess-greatest
returns-then-excess-greatest c =
    let f = excess (game_of c.args.table.now) c.args.point.now in
    let greatest = c.greatest_excess-greatest in
    let s = c.loop-coalition.coalition in
    let within : s < 2 ^ c.args.table.now.players = omega (arith, c.coalitions-coalition-end.ensures.count) in
    let kept = cast_kept w128 greatest.result (omega (arith, greatest.ensures.small)) in
    let here = cast_kept w128 c.excess.result (omega (arith, c.excess.ensures.small)) in
    let same : f s ≡ greatest.result =
    sym c.excess.ensures.value ∙ sym here ∙ ap (to_z w128) c.if-excess-greatest.true ∙ kept in
    IsChosenBlocker-first (game_of c.args.table.now) c.args.point.now greatest.result s greatest.ensures.value
    (omega (arith, ints, kept, c.if-greatest-le0.false)) within same (rw kept at c.loop-coalition.invariant)

pub returns : goal.returns
returns c =
    let greatest = c.greatest_excess-greatest in
    let kept = cast_kept w128 greatest.result (omega (arith, greatest.ensures.small)) in
    let below = rw kept at c.loop-coalition.invariant in
    absurd
    (some_greatest (game_of c.args.table.now) c.args.point.now greatest.result greatest.ensures.value
    (λ t lt. below t (omega (arith, c.coalitions-coalition-end.ensures.count))))
