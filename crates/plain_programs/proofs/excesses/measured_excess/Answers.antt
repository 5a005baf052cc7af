use Rattle.std.proofs.Common.{arith}
use mir.Syntax.{w128}
use Rattle.definitions.proofs.Casts.{cast_kept}
use Rattle.definitions.proofs.Sizes.{size-some}
use Rattle.plain_programs.proofs.excesses.measured_excess.Goals as goal

pub per_head-requires-clause-some : goal.per_head-requires-clause-some
per_head-requires-clause-some c =
    size-some 64 c.args.coalition (omega arith) c.requires.some c.ranges.coalition.fits

pub per_head-requires-clause-small : goal.per_head-requires-clause-small
per_head-requires-clause-small c =
    let kept = cast_kept w128 c.excess-excess.result (omega (arith, c.excess-excess.ensures.small)) in
    rw kept (c.excess-excess.ensures.smaller (rw c.in-PerHead.is at c.requires.fits))
