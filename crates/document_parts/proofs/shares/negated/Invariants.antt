use Rattle.std.proofs.Common.{◌≡◌, map, take, neg_ℤ}
use Rattle.document_parts.proofs.shares.negated.Given as goal

abbrev pub invariant-loop-i : goal.invariant-loop-i
invariant-loop-i l = l.num.items ≡ map neg_ℤ (take l.i l.shares.shares)
