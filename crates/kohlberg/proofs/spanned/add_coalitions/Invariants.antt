use Rattle.std.proofs.Common.{◌≡◌, take}
use Rattle.kohlberg.specs.Extends.{Extends, IsPaired}
use Rattle.kohlberg.proofs.spanned.add_coalitions.Given as goal

abbrev pub invariant-loop-s : goal.invariant-loop-s
invariant-loop-s l =
    (l.span.players ≡ l.initial.span.players)
    × Extends l.initial.span.players l.initial.span.kept l.span.kept (IsPaired (take l.s-index l.pairs))
