use Rattle.std.proofs.Common.{sym}
use Rattle.checker.proofs.Still.{StillFree-without, StillFree-kept}
use Rattle.checker.proofs.fixed.still_free.Goals as goal
use Rattle.checker.proofs.fixed.still_free.Goals.{then-is_fixed, else-is_fixed}

pub loop-i-preserved : goal.loop-i-preserved
loop-i-preserved c =
    let n = c.args.n in
    let levels = c.args.levels.now in
    let i = c.loop-i.i in
    elim c.if-is_fixed.branch [
      | then-is_fixed w ↦ rw w.still-is
          (StillFree-without n levels c.args.free i c.loop-i.still w.without-still.result c.loop-i.invariant
          (sym w.if-is_fixed.ensures) w.without-still.ensures)
      | else-is_fixed w ↦ rw w.still-is
          (StillFree-kept n levels c.args.free i c.loop-i.still c.loop-i.invariant (sym w.if-is_fixed.ensures))
    ]
