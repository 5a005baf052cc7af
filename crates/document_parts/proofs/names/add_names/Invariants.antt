use Rattle.document_parts.proofs.NamesRead.{IsRead}
use Rattle.document_parts.proofs.names.add_names.Given as goal

abbrev pub invariant-loop-value : goal.invariant-loop-value
invariant-loop-value l = IsRead l.values l.value-index l.names
