use Rattle.std.proofs.Common.{sym}
use Rattle.checker.proofs.Judged.{levels_judged, family_judged, member_of}
use Rattle.checker.proofs.failures.Claim.first_failure.Goals as goal

pub returns-then-is_some : goal.returns-then-is_some
returns-then-is_some g c =
    family_judged c.args.mode c.args.self.now.family c.args.self.now.measure
    (g.W.Worth.game c.args.self.now.game.now) c.args.self.now.shares.now c.args.levels.now
    c.family_failure-failure.result (sym c.if-is_some.ensures) c.family_failure-failure.ensures

pub returns : goal.returns
returns g c =
    let game = g.W.Worth.game c.args.self.now.game.now in
    let member =
    member_of c.args.self.now.family game c.args.self.now.shares.now c.family_failure-failure.result _
    (sym c.if-is_some.ensures) c.family_failure-failure.ensures in
    levels_judged c.args.mode c.args.self.now.family c.args.self.now.measure game c.args.self.now.shares.now
    c.args.levels.now c.levels_failure.result member c.levels_failure.ensures
