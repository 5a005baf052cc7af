use Rattle.std.proofs.Common.{◌≡◌, ◌-◌, length}
use Rattle.nested_programs.specs.Stage.{stage_of}
use Rattle.nested_programs.specs.Stages.{AreUnderway}
use Rattle.nested_programs.proofs.stages.all_stages.Given as goal

abbrev pub invariant-loop-last : goal.invariant-loop-last
invariant-loop-last g l =
    (l.n ≡ (g.W.Worth.game l.game).players) × (l.span.players ≡ l.n)
    × AreUnderway (stage_of l.family l.measure (g.W.Worth.game l.game) l.levels.items) l.span.kept l.last

abbrev pub decreases-loop-last : goal.decreases-loop-last
decreases-loop-last g l = l.n - length l.span.kept
