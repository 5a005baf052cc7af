use Rattle.separation.proofs.Eights.{AreNarrowBelow}
use Rattle.separation.proofs.sums.narrow.Given as goal

abbrev pub invariant-loop-i : goal.invariant-loop-i
invariant-loop-i l = AreNarrowBelow l.m.num.items l.n l.i l.numbers
