use Rattle.std.proofs.Common.{map}
use Rattle.matrices.specs.Rows.{entries_of}
use Rattle.assignment_games.specs.Assignments.{IsFilled}
use Rattle.assignment_games.proofs.values.all_values.Given as goal

abbrev pub invariant-loop-s : goal.invariant-loop-s
invariant-loop-s l = IsFilled (entries_of (map (λ row. row.items) l.matrix)) l.buyers l.values.items l.s
