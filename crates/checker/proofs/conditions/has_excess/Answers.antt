use Rattle.std.proofs.Common.{◌≡◌, pos, ◌≤ℤ◌, to_z, of_z, rules, arith}
use mir.Syntax.{w128}
use Rattle.definitions.proofs.Measured.{measured_den-above}
use Rattle.definitions.proofs.Ring.{linear}
use Rattle.definitions.specs.Measures.{measured_den}
use Rattle.definitions.specs.Games.{measured_excess}
use Rattle.worth_core.proofs.TopScan.{value_from_ratio}
use Rattle.checker.proofs.Judged.{same_from_value, value_from_same}
use Rattle.checker.proofs.conditions.has_excess.Goals as goal

pub returns : goal.returns
returns g c =
    let game = g.W.Worth.game c.args.game.now in
    let x = c.args.shares.now in
    let l = c.args.level.now in
    let f = c.over-excess.result in
    let m = measured_excess c.args.measure game x c.args.s in
    let whole = measured_den c.args.measure x.den in
    let den : to_z w128 (of_z w128 c.den.result) ≡ c.den.result = search rules in
    let ratio = rw (den, c.den.ensures.value) at c.over-excess.ensures in
    let positive : pos 1 ≤ℤ x.den = rw c.den.ensures.value at c.den.ensures.positive in
    let value =
    value_from_ratio c.args.measure game x c.args.s c.of.result f c.requires.measurable c.requires.some
    c.requires.within c.of.ensures ratio in
    let f_positive = c.over-excess.ensures.reduced.positive in (
      λ e. same_from_value m whole f.num f.den l.excess_num l.excess_den (omega (arith, linear, f_positive)) value
          (c.is_excess_of.ensures.0 e),
      λ h. c.is_excess_of.ensures.1
          (value_from_same m whole f.num f.den l.excess_num l.excess_den
          (measured_den-above c.args.measure x.den positive) value h),
    )
