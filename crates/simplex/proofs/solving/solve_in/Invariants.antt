use Rattle.std.proofs.Common.{◌≡◌}
use Rattle.simplex.specs.Artificial.{IsDrivenOut}
use Rattle.simplex.proofs.solving.solve_in.Given as goal

abbrev pub invariant-loop-k : goal.invariant-loop-k
invariant-loop-k g l = record {
  rows : l.work.rows ≡ l.n;
  same : g.C.Columns.program l.columns ≡ g.C.Columns.program l.fn.columns;
  same_players : g.C.Columns.players l.columns ≡ g.C.Columns.players l.fn.columns;
  state : IsDrivenOut (g.C.Columns.program l.columns) l.work l.k;
}
