use Rattle.std.proofs.Common.{◌≡◌, drop}
use Rattle.kohlberg.specs.Pairs.{placed_behind, placed}
use Rattle.nested_programs.specs.Numbers.{outer_pairs}
use Rattle.nested_programs.proofs.level.outer_numbers.Given as goal

abbrev pub invariant-loop-id : goal.invariant-loop-id
invariant-loop-id l =
    placed_behind l.coalitions.items (outer_pairs l.first (drop l.id-index l.weights))
    ≡ placed (outer_pairs l.first l.weights)
