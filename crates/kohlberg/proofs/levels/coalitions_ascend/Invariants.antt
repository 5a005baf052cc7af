use Rattle.std.proofs.Common.{◌≡◌, ◌^◌, ◌≤◌, drop}
use Rattle.kohlberg.specs.Form.{ascends}
use Rattle.kohlberg.proofs.levels.coalitions_ascend.Given as goal

abbrev pub invariant-loop-s : goal.invariant-loop-s
invariant-loop-s l = (ascends l.low (drop l.s-index l.pairs) ≡ ascends 0 l.pairs) × (l.low ≤ 2 ^ 64)
