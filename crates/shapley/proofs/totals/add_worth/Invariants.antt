use Rattle.std.proofs.Common.{◌≡◌, ℕ, ◌<◌, ◌≤◌, get_or, pos, neg_ℤ, ◌+ℤ◌, if◌then◌else◌}
use Rattle.definitions.specs.Coalitions.{has_player}
use Rattle.shapley.proofs.totals.add_worth.Given as goal

abbrev pub invariant-loop-i : goal.invariant-loop-i
invariant-loop-i l =
    ((k : ℕ) → k < l.i
    → get_or l.totals k (pos 0)
    ≡ get_or l.initial.totals k (pos 0) +ℤ (if has_player l.s k then l.gain else neg_ℤ l.loss))
    × ((k : ℕ) → l.i ≤ k → get_or l.totals k (pos 0) ≡ get_or l.initial.totals k (pos 0))
