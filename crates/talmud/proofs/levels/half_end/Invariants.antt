use Rattle.std.proofs.Common.{◌≡◌, ℕ, ◌+◌, ◌-◌, ◌<◌, ◌≤◌, length, get_or}
use Rattle.orders.specs.Ordered.{place}
use Rattle.talmud.proofs.levels.half_end.Given as goal

abbrev pub invariant-loop-k : goal.invariant-loop-k
invariant-loop-k l =
    (l.i < l.k) × (l.k ≤ l.m)
    × ((j : ℕ) → l.i ≤ j → j < l.k
    → get_or l.claims.numbers (place l.claims j) 0 ≡ get_or l.claims.numbers (place l.claims l.i) 0)
    × (length l.claims.numbers ≡ 2 → l.k ≡ l.i + 1)

abbrev pub decreases-loop-k : goal.decreases-loop-k
decreases-loop-k l = l.m - l.k
