use Rattle.std.proofs.Common.{◌≡◌, ℕ, IsTrue, to_z, of_z, rules}
use mir.Syntax.{w128}
use Rattle.worth_core.proofs.TopScan.{greatest_value}
use Rattle.worth_core.proofs.SplitScan.{is_split}
use Rattle.worth_core.proofs.measured.measured_bound.Goals as goal

pub returns-in-Plain : goal.returns-in-Plain
returns-in-Plain g c =
    let bound : to_z w128 (of_z w128 c.split_bound.result) ≡ c.split_bound.result = search rules in
    let den : to_z w128 (of_z w128 c.den.result) ≡ c.den.result = search rules in
    let same = rw (bound, den, c.den.ensures.value) at c.ratio.ensures.same in
    rw c.in-Plain.is (c.split_bound.result, c.split_bound.ensures, same)

pub returns-in-PerHead : goal.returns-in-PerHead
returns-in-PerHead g c =
    let game = g.W.Worth.game c.args.game.now in
    let den : to_z w128 (of_z w128 c.den-in-PerHead.result) ≡ c.den-in-PerHead.result = search rules in
    greatest_value c.args.measure game c.args.x.now (λ (t : ℕ). IsTrue (is_split game c.args.free t))
    c.greatest_split.result c.over.result c.requires.measurable c.greatest_split.ensures
    (rw (den, c.den-in-PerHead.ensures.value) at c.over.ensures)
