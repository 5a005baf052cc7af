use Rattle.std.proofs.Common.{◌+◌, ◌*◌, ◌^◌, ◌≤◌, unsigned_abs}
use Rattle.bankruptcy.specs.Arms.{arm_at, IsLeastGreatest}
use Rattle.bankruptcy.proofs.arms.Arm.greatest.Given as goal

abbrev pub invariant-loop-i : goal.invariant-loop-i
invariant-loop-i l =
    IsLeastGreatest (arm_at l.self.factor l.game l.x) (2 ^ l.i) l.coalition l.excess
    × (unsigned_abs l.excess ≤ 2 ^ 110 + l.i * 2 ^ 111)
