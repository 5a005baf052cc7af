use Rattle.std.proofs.Common.{◌<◌, arith, sym, ◌∙◌}
use Rattle.std.proofs.lemmas.Int.{ints}
use mir.Syntax.{w64}
use Rattle.definitions.proofs.Casts.{cast_kept}
use Rattle.convexity.specs.Search.{HoldsAt}
use Rattle.convexity.proofs.Search.{holds-by, holds-inside, one_more}
use Rattle.convexity.proofs.failures.first_partner.Goals as goal
use Rattle.convexity.proofs.failures.first_partner.Goals.{then-not-contains+else-deficit-gt0, else-not-contains}

pub loop-j-preserved : goal.loop-j-preserved
loop-j-preserved g c =
    let game = g.W.Worth.game c.args.game.now in
    let s = c.args.s in
    let i = c.args.i in
    let j = c.loop-j.j in
    let here : HoldsAt game s i j = elim c.if-not-contains.branch [
      | then-not-contains+else-deficit-gt0 w ↦
          let d = w.deficit-deficit.result in
          let kept = cast_kept w64 d (omega (arith, w.deficit-deficit.ensures.small)) in
          let least = rw kept at w.if-deficit-gt0.false in
          holds-by game s i j d w.deficit-deficit.ensures.value (omega (arith, ints, least))
      | else-not-contains w ↦ holds-inside game s i j (sym c.contains.ensures ∙ w.if-not-contains.false)
    ] in (
      omega (arith, c.loop-j.invariant.0),
      one_more (λ k. i < k → HoldsAt game s i k) j c.loop-j.invariant.1 (λ lt. here),
    )
