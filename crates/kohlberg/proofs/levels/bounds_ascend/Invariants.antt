use Rattle.std.proofs.Common.{◌≡◌, drop}
use Rattle.kohlberg.specs.Form.{ascends}
use Rattle.kohlberg.proofs.levels.bounds_ascend.Given as goal

abbrev pub invariant-loop-i : goal.invariant-loop-i
invariant-loop-i l = ascends l.low (drop l.i-index l.bounds) ≡ ascends 0 l.bounds
