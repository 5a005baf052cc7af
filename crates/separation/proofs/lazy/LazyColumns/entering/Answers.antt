use Rattle.separation.specs.Fronts.{lazy_columns}
use Rattle.separation.proofs.Entered.{entered}
use Rattle.separation.proofs.lazy.LazyColumns.entering.Goals as goal

pub returns-clause-answer : goal.returns-clause-answer
returns-clause-answer g c =
    let p = c.args.self.now in
    let m = c.args.m.now in
    entered p.measure p.players p.levels (lazy_columns (g.W.Worth.game p.game.now) p.front p.marks) m.num.items
    m.den c.args.with_costs c.requires c.first_found.result m.den_positive c.first_found.ensures
