use Rattle.std.proofs.Common.{◌*◌, arith}
use Rattle.std.proofs.lemmas.Int.{to_z_pos}
use mir.Syntax.{w64}
use Rattle.definitions.specs.Coalitions.{size}
use Rattle.example_class.proofs.Squares.{squared}
use Rattle.example_class.proofs.TeamWorth.worth.Goals as goal

pub overflow_mul-result : goal.overflow_mul-result
overflow_mul-result c = rw c.len-members.ensures (omega (arith, squared c.args.s))

pub overflow_cast-result : goal.overflow_cast-result
overflow_cast-result c = rw c.len-members.ensures (omega (arith, squared c.args.s))

pub returns : goal.returns
returns c =
    rw c.len-members.ensures (to_z_pos w64 (size c.args.s * size c.args.s) (omega (arith, squared c.args.s)))
