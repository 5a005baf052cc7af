use Rattle.std.proofs.Common.{arith, ap, ◌∙◌}
use Rattle.std.specs.Int.{int_max}
use mir.Syntax.{w128}
use Rattle.definitions.proofs.Casts.{cast_kept}
use Rattle.definitions.proofs.Scans.{IsGreatest-more}
use Rattle.definitions.specs.Games.{excess}
use Rattle.plain_programs.specs.Plain.{game_of}
use Rattle.plain_programs.proofs.blockers.greatest_excess.Goals as goal

pub loop-coalition-preserved : goal.loop-coalition-preserved
loop-coalition-preserved c =
    let f = excess (game_of c.args.table.now) c.args.point.now in
    let here = cast_kept w128 c.excess.result (omega (arith, c.excess.ensures.small)) ∙ c.excess.ensures.value in
    let kept = cast_kept w128 c.greater-greatest.result (omega (arith, c.greater-greatest.ensures.small)) in
    let value = kept ∙ c.greater-greatest.ensures.value ∙ ap (int_max _) here in (
      rw value (IsGreatest-more f c.loop-coalition.coalition _ c.loop-coalition.invariant.0),
      rw kept c.greater-greatest.ensures.small,
    )
