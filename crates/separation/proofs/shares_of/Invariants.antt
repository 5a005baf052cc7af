use Rattle.std.proofs.Common.{◌≡◌, take}
use Rattle.separation.proofs.shares_of.Given as goal

abbrev pub invariant-loop-i : goal.invariant-loop-i
invariant-loop-i l = l.num.items ≡ take l.i l.multipliers.num.items
