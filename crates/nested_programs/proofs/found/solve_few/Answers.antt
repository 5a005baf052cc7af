use Rattle.std.proofs.Common.{inr}
use Rattle.nested_programs.specs.Stage.{stage_of}
use Rattle.nested_programs.proofs.CertifiedPoint.{is_point}
use Rattle.nested_programs.proofs.found.solve_few.Goals as goal

pub returns : goal.returns
returns g c =
    let game = g.W.Worth.game c.args.game.now in
    let done = c.in_ok-levels.ensures {u = tt} in
    let shares = c.in_ok-shares.ensures {u = tt} in
    let certificate = rw (c.players.ensures.count, c.unwrap-certificate.ensures) at c.new.ensures in
    is_point (stage_of c.args.family c.args.measure game c.in_ok-levels.levels.items) c.in_ok-levels.last
    c.in_ok-shares.shares c.unwrap-certificate.result c.players.ensures.laws.some (inr c.requires.few) done shares
    certificate.0
