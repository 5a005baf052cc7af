use Rattle.std.proofs.Common.{le_trans}
use Rattle.definitions.specs.declared.Family.TheVariants.{Imputations}
use Rattle.separation.specs.Making.{bound}
use Rattle.separation.specs.Scanned.{game_of}
use Rattle.separation.proofs.InFront.{first_listed, none_listed}
use Rattle.separation.proofs.front.first_bound.Goals as goal

pub returns-then-bound_improves : goal.returns-then-bound_improves
returns-then-bound_improves g c =
    let scan = c.args.scan.now in
    first_listed scan scan.program.now.players (bound Imputations (game_of scan) c.args.levels.now) c.loop-i.i
    c.loop-i-test.true (c.bound_improves.ensures.0 c.if-bound_improves.true) c.loop-i.invariant

pub returns : goal.returns
returns g c =
    let scan = c.args.scan.now in
    none_listed scan scan.program.now.players (bound Imputations (game_of scan) c.args.levels.now)
    (λ j lt. c.loop-i.invariant j (le_trans lt c.loop-i-test.false))
