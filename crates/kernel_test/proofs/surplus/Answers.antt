use Rattle.std.proofs.Common.{◌≡◌, rules, to_z, of_z}
use mir.Syntax.{w128}
use Rattle.kernel_test.proofs.surplus.Goals as goal

pub returns : goal.returns
returns g c =
    let num : to_z w128 (of_z w128 c.scaled_surplus.result) ≡ c.scaled_surplus.result = search rules in
    let den : to_z w128 (of_z w128 c.den.result) ≡ c.den.result = search rules in
    (c.scaled_surplus.result, c.scaled_surplus.ensures, rw (num, den, c.den.ensures.value) at c.ratio.ensures)
