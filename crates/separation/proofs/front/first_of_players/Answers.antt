use Rattle.std.proofs.Common.{arith}
use Rattle.definitions.specs.declared.Family.TheVariants.{Imputations}
use Rattle.separation.specs.Making.{bound}
use Rattle.separation.specs.Scanned.{game_of}
use Rattle.separation.proofs.InFront.{none_alone, bound_first}
use Rattle.separation.proofs.Slots.{length-listed}
use Rattle.separation.proofs.front.first_of_players.Goals as goal

pub returns-in-Preimputations : goal.returns-in-Preimputations
returns-in-Preimputations g c =
    none_alone c.args.scan.now c.args.front.now.family c.args.front.now.levels.now c.in-Preimputations.is

pub overflow_add-scan : goal.overflow_add-scan
overflow_add-scan g c =
    let scan = c.args.scan.now in
    let p = scan.program.now in
    let count = length-listed p.players (bound Imputations (game_of scan) c.args.front.now.levels.now) in
    let place = (c.in_ok-i-in-Imputations.ensures {u = tt}).place in
    omega arith

pub returns-in_ok-i-in-Imputations : goal.returns-in_ok-i-in-Imputations
returns-in_ok-i-in-Imputations g c =
    let front = c.args.front.now in
    rw c.from-in-Imputations.ensures
    (bound_first c.args.scan.now front.family front.levels.now c.in-Imputations.is c.in_ok-i-in-Imputations.i
    c.in_default.ensures (c.in_ok-i-in-Imputations.ensures {u = tt}))
