use Rattle.std.proofs.Common.{◌≡◌, ◌+◌, ◌*◌, length, sym, ◌∙◌, arith}
use Rattle.separation.specs.Stage.{earlier_of}
use Rattle.separation.proofs.InnerColumns.{length-inner}
use Rattle.separation.proofs.front.Front.count.Goals as goal

pub returns-clause-value : goal.returns-clause-value
returns-clause-value g c =
    let game = g.W.Worth.game c.args.game.now in
    let levels = c.args.self.now.levels.now in
    let e : 2 + 2 * c.coalition_count.result + 2 * c.from.result
    ≡ 2 + 2 * length (earlier_of 0 levels) + game.players + game.players =
    omega arith in
    e ∙ sym (length-inner c.args.self.now.family game levels)
