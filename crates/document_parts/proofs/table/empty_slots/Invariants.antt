use Rattle.std.proofs.Common.{◌≡◌, replicate, None}
use Rattle.document_parts.proofs.table.empty_slots.Given as goal

abbrev pub invariant-loop-i : goal.invariant-loop-i
invariant-loop-i l = l.slots.items ≡ replicate l.i None
