use Rattle.std.proofs.Common.{FitsSigned}
use mir.Syntax.{w64}
use Rattle.std.proofs.lemmas.Int.{to_z-of_z}
use Rattle.separation.proofs.column.Column.new.Goals as goal

pub returns : goal.returns
returns c =
    let fits : FitsSigned w64 c.args.worth = c.ranges.worth in
    simp to_z-of_z
