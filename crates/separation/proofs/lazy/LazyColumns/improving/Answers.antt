use Rattle.separation.specs.Fronts.{lazy_columns}
use Rattle.separation.proofs.Entered.{risen}
use Rattle.separation.proofs.lazy.LazyColumns.improving.Goals as goal

pub returns-clause-answer : goal.returns-clause-answer
returns-clause-answer g c =
    let p = c.args.self.now in
    let m = c.args.m.now in
    risen p.measure p.players p.levels (lazy_columns (g.W.Worth.game p.game.now) p.front p.marks) m.num.items m.den
    c.args.with_costs c.requires c.some_found-found.result m.den_positive c.some_found-found.ensures
