use Rattle.document_parts.proofs.Filling.{slots, masks_of, IsFilled}
use Rattle.document_parts.proofs.table.filled.Given as goal

abbrev pub invariant-loop-i : goal.invariant-loop-i
invariant-loop-i l =
    IsFilled l.fn.players (slots (masks_of l.fn.players l.fn.names l.pairs) l.numbers) l.i l.slots.items
