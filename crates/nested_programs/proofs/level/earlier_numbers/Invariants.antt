use Rattle.std.proofs.Common.{◌≡◌, ◌+◌, ◌*◌, length, drop}
use Rattle.separation.specs.Stage.{earlier_of}
use Rattle.kohlberg.specs.Pairs.{placed_behind, placed}
use Rattle.nested_programs.specs.Numbers.{earlier_pairs}
use Rattle.nested_programs.proofs.level.earlier_numbers.Given as goal

abbrev pub invariant-loop-level : goal.invariant-loop-level
invariant-loop-level l =
    (placed_behind l.earlier.items (earlier_pairs l.weights l.id (earlier_of 0 (drop l.level-index l.front)))
    ≡ placed (earlier_pairs l.weights 2 (earlier_of 0 l.front)))
    × (l.id + 2 * length (earlier_of 0 (drop l.level-index l.front)) ≡ 2 + 2 * length (earlier_of 0 l.front))
