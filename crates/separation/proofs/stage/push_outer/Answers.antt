use Rattle.separation.proofs.Outside.{EndsOuter-none, EndsOuter-push}
use Rattle.separation.proofs.stage.push_outer.Goals as goal

pub loop-s-init : goal.loop-s-init
loop-s-init g c = EndsOuter-none (g.W.Worth.game c.args.game.now) c.args.levels.now c.args.columns.now.items

pub loop-s-preserved : goal.loop-s-preserved
loop-s-preserved g c =
    let pushed = c.in_ok-push.ensures {u = tt} in
    EndsOuter-push (g.W.Worth.game c.args.game.now) c.args.levels.now c.loop-s.s c.args.columns.now.items
    c.loop-s.columns.items _ c.outer.result c.loop-s.invariant c.outer.ensures pushed.items
