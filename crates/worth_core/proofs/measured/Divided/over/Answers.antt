use Rattle.std.proofs.Common.{◌≡◌, to_z, of_z, subst, arith, pos, ◌*ℤ◌}
use mir.Syntax.{w128}
use Rattle.fractions.specs.Fraction.{IsRatio}
use Rattle.worth_core.specs.Measured.{Divided}
use Rattle.worth_core.proofs.DividedNumbers.{denominator_kept, denominator_positive}
use Rattle.worth_core.proofs.measured.Divided.over.Goals as goal
use Rattle.definitions.proofs.Casts.{cast_kept}

pub ratio-requires : goal.ratio-requires
ratio-requires c =
    rw
    (denominator_kept c.args.den c.self.inside.divisor c.requires.positive c.requires.common c.self.invariant.few)
    (denominator_positive c.args.den c.self.inside.divisor c.requires.positive c.self.invariant.some)

pub returns : goal.returns
returns c =
    let excess : to_z w128 (of_z w128 c.self.inside.excess) ≡ c.self.inside.excess =
    cast_kept w128 c.self.inside.excess (let s = c.self.invariant.small in omega (arith, s)) in
    let den =
    denominator_kept c.args.den c.self.inside.divisor c.requires.positive c.requires.common
    c.self.invariant.few in
    subst (λ (d : Divided). IsRatio c.ratio.result d.excess (c.args.den *ℤ pos d.divisor)) c.self.view_is
    (rw (excess, den) at c.ratio.ensures)
