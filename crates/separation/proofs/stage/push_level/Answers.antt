use Rattle.std.proofs.Common.{ℕ, ℤ, ◌^◌, ◌<◌, ◌∙◌}
use Rattle.definitions.proofs.Alls.{all_at}
use Rattle.separation.proofs.Pushed.{level-push, on_err, level_part, level_half}
use Rattle.separation.proofs.stage.push_level.Goals as goal

pub plain-requires : goal.plain-requires
plain-requires g c =
    let few = λ (q : ℕ × ℤ). q.0 < 2 ^ (g.W.Worth.game c.args.game.now).players in
    rw c.loop-s-item.is
    (all_at few c.args.pairs.now c.loop-s.s-index c.loop-s-item.result c.loop-s-test.true c.requires)

pub minus-requires : goal.minus-requires
minus-requires g c =
    let few = λ (q : ℕ × ℤ). q.0 < 2 ^ (g.W.Worth.game c.args.game.now).players in
    rw c.loop-s-item.is
    (all_at few c.args.pairs.now c.loop-s.s-index c.loop-s-item.result c.loop-s-test.true c.requires)

pub loop-s-preserved : goal.loop-s-preserved
loop-s-preserved g c =
    let game = g.W.Worth.game c.args.game.now in
    let first = c.in_ok-push.ensures {u = tt} in
    let second = c.in_ok-push-2.ensures {u = tt} in
    level-push game c.args.k c.loop-s.s-index c.args.pairs.now c.loop-s-item.result c.args.columns.now.items
    c.loop-s.columns.items _ c.loop-s-test.true c.loop-s-item.is c.loop-s.invariant
    (rw c.minus.ensures at (rw c.plain.ensures at (rw first.items at second.items)))

pub returns-in_err-push-clause-err : goal.returns-in_err-push-clause-err
returns-in_err-push-clause-err g c =
    let game = g.W.Worth.game c.args.game.now in
    on_err c.from_residual.result
    (level_part game c.args.k c.loop-s.s-index c.args.pairs.now c.args.columns.now.items _
    (c.in_err-push.ensures.items ∙ c.loop-s.invariant))

pub returns-in_err-push-2-clause-err : goal.returns-in_err-push-2-clause-err
returns-in_err-push-2-clause-err g c =
    let game = g.W.Worth.game c.args.game.now in
    let first = c.in_ok-push.ensures {u = tt} in
    on_err c.from_residual-in_err-push-2.result
    (level_half game c.args.k c.loop-s.s-index c.args.pairs.now c.loop-s-item.result c.args.columns.now.items
    c.loop-s.columns.items _ c.loop-s-test.true c.loop-s-item.is c.loop-s.invariant
    (c.in_err-push-2.ensures.items ∙ rw c.plain.ensures at first.items))
