use Rattle.std.proofs.Common.{◌-◌}
use Rattle.worth_core.proofs.Amounts.{IsWalked}
use Rattle.worth_core.proofs.shares.Shares.sum_after.Given as goal

abbrev pub invariant-front : goal.invariant-front
invariant-front l = IsWalked l.self l.s l.i l.sum

abbrev pub decreases-front : goal.decreases-front
decreases-front l = 64 - l.i
