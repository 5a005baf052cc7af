use Rattle.std.proofs.Common.{◌≡◌, take}
use Rattle.kohlberg.specs.Extends.{Extends, IsBoundVector}
use Rattle.kohlberg.proofs.spanned.add_bounds.Given as goal

abbrev pub invariant-loop-i : goal.invariant-loop-i
invariant-loop-i l =
    (l.span.players ≡ l.initial.span.players)
    × Extends l.initial.span.players l.initial.span.kept l.span.kept
    (IsBoundVector l.initial.span.players (take l.i-index l.bounds))
