use Rattle.std.proofs.Common.{take}
use Rattle.document_parts.specs.Numbers.{seen}
use Rattle.document_parts.proofs.NumbersRead.{IsRead}
use Rattle.document_parts.proofs.numbers.read_worths.Given as goal

abbrev pub invariant-loop-value : goal.invariant-loop-value
invariant-loop-value l = IsRead (take l.value-index (seen l.values)) l.scale l.items.items
