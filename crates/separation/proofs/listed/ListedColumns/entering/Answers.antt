use Rattle.separation.proofs.Entered.{entered}
use Rattle.separation.proofs.listed.ListedColumns.entering.Goals as goal

pub returns-clause-answer : goal.returns-clause-answer
returns-clause-answer c =
    let t = c.args.self.now in
    let m = c.args.m.now in
    entered t.measure t.players t.levels t.columns.items m.num.items m.den c.args.with_costs c.requires
    c.first_improving.result m.den_positive (rw c.deref.ensures.value at c.first_improving.ensures)
