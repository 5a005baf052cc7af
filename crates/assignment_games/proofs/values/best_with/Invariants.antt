use Rattle.std.proofs.Common.{map}
use Rattle.definitions.specs.Coalitions.{has_player}
use Rattle.assignment_games.proofs.Choices.{IsBestChoice}
use Rattle.matrices.specs.Rows.{entries_of}
use Rattle.assignment_games.proofs.values.best_with.Given as goal

abbrev pub invariant-loop-j : goal.invariant-loop-j
invariant-loop-j l =
    IsBestChoice (entries_of (map (λ row. row.items) l.matrix)) l.buyers (has_player l.s) l.b l.j l.value
