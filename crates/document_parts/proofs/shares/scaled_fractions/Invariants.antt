use Rattle.std.proofs.Common.{◌≡◌, map, take}
use Rattle.json_trees.specs.LowestTerms.{times_scale}
use Rattle.document_parts.proofs.shares.scaled_fractions.Given as goal

abbrev pub invariant-loop-number : goal.invariant-loop-number
invariant-loop-number l = l.found.items ≡ map (times_scale l.scale) (take l.number-index l.written)
