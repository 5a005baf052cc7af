use Rattle.std.proofs.Common.{◌≡◌, ◌+◌, length, drop}
use Rattle.separation.specs.Stage.{earlier_of}
use Rattle.separation.proofs.front.coalition_count.Given as goal

abbrev pub invariant-loop-level : goal.invariant-loop-level
invariant-loop-level l =
    l.count + length (earlier_of 0 (drop l.level-index l.levels)) ≡ length (earlier_of 0 l.levels)
