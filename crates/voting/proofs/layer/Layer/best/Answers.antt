use Rattle.std.proofs.Common.{sym}
use Rattle.voting.proofs.Joining.{best_below-none, best_step}
use Rattle.voting.proofs.layer.Layer.best.Goals as goal

pub loop-w-init : goal.loop-w-init
loop-w-init c = sym (best_below-none _ _ _)

pub loop-w-preserved : goal.loop-w-preserved
loop-w-preserved c =
    best_step _ c.args.quota c.loop-w.w c.args.self.now c.loop-w.best c.excess_at.result c.better_of-best.result
    c.loop-w.invariant c.excess_at.ensures c.better_of-best.ensures
