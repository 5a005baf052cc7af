use Rattle.std.proofs.Common.{◌-◌, ◌≤◌, length, slice_index}
use Rattle.std.specs.List.{AllByRecursion}
use Rattle.kohlberg.specs.Solved.{IsLowest}
use Rattle.orders.specs.Ordered.{place}
use Rattle.talmud.specs.Levels.{AreHalves}
use Rattle.talmud.proofs.levels.half_levels.Given as goal

abbrev pub invariant-loop-i : goal.invariant-loop-i
invariant-loop-i l =
    AreHalves (length l.claims.numbers) (slice_index l.claims.numbers) (place l.claims) l.m 0 l.levels.items l.i
    × (l.i ≤ l.m) × AllByRecursion IsLowest l.levels.items

abbrev pub decreases-loop-i : goal.decreases-loop-i
decreases-loop-i l = l.m - l.i
