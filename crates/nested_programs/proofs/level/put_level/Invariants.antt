use Rattle.std.proofs.Common.{◌≡◌, take}
use Rattle.kohlberg.specs.Pairs.{placed_behind}
use Rattle.nested_programs.specs.Numbers.{level_pairs}
use Rattle.nested_programs.proofs.level.put_level.Given as goal

abbrev pub invariant-loop-k : goal.invariant-loop-k
invariant-loop-k l =
    l.earlier.items ≡ placed_behind l.initial.earlier.items (level_pairs l.weights l.first (take l.k l.pairs))
