use Rattle.std.proofs.Common.{Bool, ◌*ℤ◌, ap, sym, ◌∙◌}
use Rattle.definitions.proofs.Ring.{mul-zeroℤ}
use Rattle.separation.specs.Values.{counted}
use Rattle.separation.proofs.Products.{bar_product}
use Rattle.separation.proofs.sums.bar.Goals as goal

pub overflow_mul-result : goal.overflow_mul-result
overflow_mul-result c =
    (bar_product c.args.m.now.den c.from.result c.args.cost c.args.m.now.den_small c.requires c.ranges.cost
    c.from.ensures).0

pub returns-then-with_costs : goal.returns-then-with_costs
returns-then-with_costs c =
    let d = c.args.m.now.den in
    (bar_product d c.from.result c.args.cost c.args.m.now.den_small c.requires c.ranges.cost c.from.ensures).1
    ∙ ap (λ (b : Bool). d *ℤ counted b c.args.cost) (sym c.if-with_costs.true)

pub returns-else-with_costs : goal.returns-else-with_costs
returns-else-with_costs c =
    let d = c.args.m.now.den in
    sym (mul-zeroℤ d) ∙ ap (λ (b : Bool). d *ℤ counted b c.args.cost) (sym c.if-with_costs.false)
