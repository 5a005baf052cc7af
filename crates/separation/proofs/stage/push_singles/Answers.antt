use Rattle.std.proofs.Common.{◌<◌, ◌∙◌}
use Rattle.separation.specs.Making.{single}
use Rattle.separation.proofs.Pushed.{on_err, listed_part}
use Rattle.separation.proofs.stage.push_singles.Goals as goal

pub returns-in_err-push-clause-err : goal.returns-in_err-push-clause-err
returns-in_err-push-clause-err g c =
    let game = g.W.Worth.game c.args.game.now in
    let few : c.loop-i.i < game.players = rw c.players-i-end.ensures.count at c.loop-i-test.true in
    on_err c.from_residual.result
    (listed_part game.players c.loop-i.i (single c.args.family game) c.args.columns.now.items _ few
    (c.in_err-push.ensures.items ∙ c.loop-i.invariant))
