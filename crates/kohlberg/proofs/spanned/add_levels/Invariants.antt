use Rattle.std.proofs.Common.{◌≡◌, take}
use Rattle.kohlberg.specs.Extends.{Extends, IsLevelVector}
use Rattle.kohlberg.proofs.spanned.add_levels.Given as goal

abbrev pub invariant-loop-level : goal.invariant-loop-level
invariant-loop-level l =
    (l.span.players ≡ l.initial.span.players)
    × Extends l.initial.span.players l.initial.span.kept l.span.kept
    (IsLevelVector l.initial.span.players (take l.level-index l.levels))
