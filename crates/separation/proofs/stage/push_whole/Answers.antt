use Rattle.std.proofs.Common.{ap, ◌∙◌}
use Rattle.definitions.specs.Coalitions.{grand_coalition}
use Rattle.separation.proofs.Pushed.{on_err}
use Rattle.separation.proofs.stage.push_whole.Goals as goal

pub returns-in_err-push-2-clause-err : goal.returns-in_err-push-2-clause-err
returns-in_err-push-2-clause-err g c =
    let game = g.W.Worth.game c.args.game.now in
    let first = c.in_ok-push.ensures {u = tt} in
    let all = c.all-all.ensures ∙ ap grand_coalition c.players.ensures.count in
    on_err c.from_residual-in_err-push-2.result (
      1,
      cc (c.in_err-push-2.ensures.items, first.items, c.plain.ensures),
    )
