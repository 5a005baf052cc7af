use Rattle.std.proofs.Common.{map, sym, subst, List, ℕ}
use Rattle.matrices.specs.Rows.{entries_of}
use Rattle.assignment_games.specs.Assignments.{IsFilled}
use Rattle.assignment_games.proofs.Table.{filled_more}
use Rattle.assignment_games.proofs.values.all_values.Goals as goal

pub best-value-requires-clause-filled : goal.best-value-requires-clause-filled
best-value-requires-clause-filled c =
    let a = c.args in
    subst (λ (t : List ℕ). IsFilled (entries_of (map (λ row. row.items) a.matrix.now)) a.buyers t c.loop-s.s)
    (sym c.deref.ensures.value) c.loop-s.invariant

pub loop-s-preserved : goal.loop-s-preserved
loop-s-preserved c =
    let a = c.args in
    let items = c.in_ok-push.ensures.items in
    filled_more (entries_of (map (λ row. row.items) a.matrix.now)) a.buyers c.loop-s.values.items
    c.push.new.self.items c.loop-s.s c.best-value.result items c.loop-s.invariant c.best-value.ensures
