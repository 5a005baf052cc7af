use Rattle.std.proofs.Common.{◌≡◌, length}
use Rattle.definitions.specs.Coalitions.{grand_coalition}
use Rattle.worth_core.specs.SplitKinds.{AreSplitSums}
use Rattle.bankruptcy.specs.Arms.{arm_number}
use Rattle.bankruptcy.proofs.arms.Arm.split_bound.Given as goal

abbrev pub invariant-loop-i : goal.invariant-loop-i
invariant-loop-i l =
    AreSplitSums (length l.game.claims) (arm_number l.self.factor l.game l.x) l.free (grand_coalition l.i) l.sums
    × (l.sums.count ≡ l.i)
