use Rattle.checker.proofs.Still.{StillFree}
use Rattle.checker.proofs.fixed.still_free.Given as goal

abbrev pub invariant-loop-i : goal.invariant-loop-i
invariant-loop-i l = StillFree l.n l.levels l.fn.free l.i l.still
