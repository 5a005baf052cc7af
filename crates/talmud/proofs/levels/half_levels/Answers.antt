use Rattle.std.proofs.Common.{[], ◌∷◌}
use Rattle.talmud.proofs.Making.{AreHalves-push}
use Rattle.talmud.proofs.levels.half_levels.Goals as goal
use Rattle.definitions.proofs.Alls.{all_join}

pub loop-i-preserved : goal.loop-i-preserved
loop-i-preserved c =
    let level = c.in_ok-half_level.ensures.level c.args.m c.half_end-k.ensures in
    let pushed = c.in_ok-push.ensures {u = tt} in (
      rw pushed.items
          (AreHalves-push _ _ _ c.args.m 0 c.loop-i.i c.half_end-k.result c.loop-i.levels.items _ c.loop-i.invariant.0
          level),
      c.half_end-k.ensures.within,
      rw pushed.items
          (all_join _ c.loop-i.levels.items (_ ∷ []) c.loop-i.invariant.2 (c.in_ok-half_level.ensures.lowest, tt)),
    )
