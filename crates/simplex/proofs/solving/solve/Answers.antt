use Rattle.simplex.proofs.Minors.{small_minors_of}
use Rattle.simplex.proofs.solving.solve.Goals as goal

pub returns-clause-minors : goal.returns-clause-minors
returns-clause-minors g c =
    small_minors_of (g.C.Columns.program c.args.columns.now) (g.met.C.Columns.lawful c.args.columns.now)
