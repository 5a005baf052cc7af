use Rattle.std.proofs.Common.{map}
use Rattle.definitions.specs.Coalitions.{has_player}
use Rattle.matrices.specs.Rows.{entries_of}
use Rattle.assignment_games.proofs.Matchings.{no_rows}
use Rattle.assignment_games.proofs.values.best.Goals as goal

pub returns-in-None : goal.returns-in-None
returns-in-None c =
    no_rows (entries_of (map (λ row. row.items) c.args.matrix.now)) c.args.buyers (has_player c.args.s)
    c.in-None.ensures
