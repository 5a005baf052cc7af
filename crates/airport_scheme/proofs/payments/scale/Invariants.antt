use Rattle.std.proofs.Common.{◌≡◌, ℕ, ◌<◌, ◌≤◌, get_or, pos, ◌*ℤ◌}
use Rattle.airport_scheme.proofs.payments.scale.Given as goal

abbrev pub invariant-loop-k : goal.invariant-loop-k
invariant-loop-k l =
    ((k : ℕ) → k < l.k → get_or l.pay k (pos 0) ≡ get_or l.initial.pay k (pos 0) *ℤ l.size)
    × ((k : ℕ) → l.k ≤ k → get_or l.pay k (pos 0) ≡ get_or l.initial.pay k (pos 0))
