use Rattle.std.proofs.Common.{ap, ◌∙◌}
use Rattle.worth_core.specs.Measured.{Divided, is_below}
use Rattle.worth_core.proofs.DividedNumbers.{product_kept}
use Rattle.worth_core.proofs.measured.Divided.is_below.Goals as goal

pub returns : goal.returns
returns c =
    let left =
    product_kept c.self.inside.excess c.other.inside.divisor c.self.invariant.small c.other.invariant.few in
    let right =
    product_kept c.other.inside.excess c.self.inside.divisor c.other.invariant.small c.self.invariant.few in
    let other : Divided = record { excess = c.other.inside.excess; divisor = c.other.inside.divisor } in
    rw (left, right)
    (ap (λ (d : Divided). is_below d other) c.self.view_is ∙ ap (is_below c.args.self.now) c.other.view_is)
