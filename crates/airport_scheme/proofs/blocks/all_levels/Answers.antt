use Rattle.std.proofs.Common.{[], ◌∷◌}
use Rattle.airport_scheme.proofs.Solved.{IsChain-push}
use Rattle.airport_scheme.proofs.blocks.all_levels.Goals as goal
use Rattle.definitions.proofs.Alls.{all_join}

pub loop-i-preserved : goal.loop-i-preserved
loop-i-preserved c =
    let inv = c.loop-i.invariant in
    let block = c.in_ok-block_level.ensures in
    let pushed = c.in_ok-push.ensures {u = tt} in (
      rw pushed.items
          (IsChain-push _ _ _ _ 0 c.loop-i.i c.block_end-k.result.0 c.loop-i.levels.items _ inv.0 block.block),
      c.block_end-k.ensures.end.within,
      c.block_end-k.ensures.after,
      rw pushed.items (all_join _ c.loop-i.levels.items (_ ∷ []) inv.3 (block.lowest, tt)),
    )
