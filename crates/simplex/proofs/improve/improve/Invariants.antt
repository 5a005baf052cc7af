use Rattle.std.proofs.Common.{◌≡◌}
use Rattle.simplex.specs.Improving.{IsImproving}
use Rattle.simplex.specs.Measure.{objective_room}
use Rattle.simplex.proofs.improve.improve.Given as goal

abbrev pub invariant-loop-id : goal.invariant-loop-id
invariant-loop-id g l = record {
  same : g.C.Columns.program l.columns ≡ g.C.Columns.program l.fn.columns;
  same_players : g.C.Columns.players l.columns ≡ g.C.Columns.players l.fn.columns;
  state : IsImproving (g.C.Columns.program l.columns) l.part l.work;
}

abbrev pub decreases-loop-id : goal.decreases-loop-id
decreases-loop-id g l = objective_room l.work.rows l.work.costs l.work.tracked l.work.den
