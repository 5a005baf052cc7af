use Rattle.std.proofs.Common.{le_trans}
use Rattle.definitions.specs.declared.Family.TheVariants.{Imputations}
use Rattle.separation.specs.Making.{single}
use Rattle.separation.specs.Scanned.{game_of}
use Rattle.separation.proofs.InFront.{alone_small, first_listed, none_listed}
use Rattle.separation.proofs.front.first_single.Goals as goal

pub improves-requires-clause-small : goal.improves-requires-clause-small
improves-requires-clause-small g c =
    rw c.single-column.ensures (alone_small c.args.scan.now c.loop-i.i c.loop-i-test.true)

pub returns-then-improves : goal.returns-then-improves
returns-then-improves g c =
    let scan = c.args.scan.now in
    first_listed scan scan.program.now.players (single Imputations (game_of scan)) c.loop-i.i c.loop-i-test.true
    (rw c.single-column.ensures at (c.improves.ensures.0 c.if-improves.true)) c.loop-i.invariant

pub returns : goal.returns
returns g c =
    let scan = c.args.scan.now in
    none_listed scan scan.program.now.players (single Imputations (game_of scan))
    (λ j lt. c.loop-i.invariant j (le_trans lt c.loop-i-test.false))
