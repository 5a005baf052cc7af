use Rattle.std.proofs.Common.{◌+◌, ◌*◌, ◌≤◌, ℕ, arith, mul-le-mul, ap, ◌∙◌, ◌/◌, ◌-◌}
use Rattle.shapley.specs.Layers.{common}
use Rattle.voting.specs.Counts.{share_unit}
use Rattle.voting.proofs.WholeUnits.{unit-small, unit-first, unit-next}
use Rattle.voting.proofs.units.share_unit.Goals as goal

pub loop-j-init : goal.loop-j-init
loop-j-init c = unit-first c.args.n c.args.k c.requires.few c.requires.size

pub overflow_mul-unit : goal.overflow_mul-unit
overflow_mul-unit c =
    let small : share_unit c.args.n c.loop-j.j ≤ common =
    unit-small c.args.n c.loop-j.j c.requires.few (omega arith) in
    let unit : c.loop-j.unit ≤ common = omega arith in
    let count : c.loop-j.j + 1 ≤ 32 = omega arith in
    omega (arith, mul-le-mul unit count)

pub loop-j-preserved : goal.loop-j-preserved
loop-j-preserved c =
    ap (λ (u : ℕ). u * (c.loop-j.j + 1) / (c.args.n - 1 - c.loop-j.j)) c.loop-j.invariant
    ∙ unit-next c.args.n c.loop-j.j c.requires.few (omega arith)

pub returns-clause-small : goal.returns-clause-small
returns-clause-small c =
    let small : share_unit c.args.n c.loop-j.j ≤ common =
    unit-small c.args.n c.loop-j.j c.requires.few (omega arith) in
    omega arith
