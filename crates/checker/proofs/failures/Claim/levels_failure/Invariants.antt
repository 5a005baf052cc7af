use Rattle.std.proofs.Common.{◌≡◌, take}
use Rattle.checker.specs.Fixed.{mode_of, Fixes}
use Rattle.checker.proofs.Chain.{SameLevels}
use Rattle.checker.proofs.failures.Claim.levels_failure.Given as goal

abbrev pub invariant-loop-i : goal.invariant-loop-i
invariant-loop-i g l =
    SameLevels l.fn.mode l.self.family l.self.measure (g.W.Worth.game l.self.game.now) l.self.shares.now l.levels l.i
    × (mode_of l.fixed ≡ l.fn.mode) × Fixes (g.W.Worth.game l.self.game.now).players (take l.i l.levels) l.fixed
