use Rattle.std.proofs.Common.{◌≡◌, None}
use Rattle.std.proofs.Math.Pow.{pow-lt}
use Rattle.definitions.specs.Coalitions.{singleton}
use Rattle.separation.specs.Making.{minus}
use Rattle.separation.proofs.InFront.{minus_small}
use Rattle.separation.proofs.front.bound_improves.Goals as goal

pub minus-column-requires : goal.minus-column-requires
minus-column-requires g c =
    let p = c.args.scan.now.program.now in
    rw c.single.ensures (pow-lt (rw p.count at c.requires))

pub improves-requires-clause-small : goal.improves-requires-clause-small
improves-requires-clause-small g c =
    let p = c.args.scan.now.program.now in
    let game = g.W.Worth.game p.game.now in
    let is : c.minus-column.result ≡ minus game (singleton c.args.i) None =
    cc (c.minus-column.ensures, c.single.ensures) in
    rw is (minus_small c.args.scan.now c.args.i c.requires)
