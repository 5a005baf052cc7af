use Rattle.std.proofs.Common.{◌≡◌, ◌-◌, length}
use Rattle.orders.specs.Ordered.{place}
use Rattle.talmud.specs.Levels.{with_both}
use Rattle.talmud.proofs.levels.both.Given as goal

abbrev pub invariant-loop-j : goal.invariant-loop-j
invariant-loop-j l = l.pairs.items ≡ with_both (length l.claims.numbers) (place l.claims) l.i (l.j - l.i)
