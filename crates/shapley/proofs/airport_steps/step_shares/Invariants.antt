use Rattle.std.proofs.Common.{◌≡◌, ◌<◌, ℕ, ◌^◌, neg_ℤ, unsigned_abs, length, pos, slice_index, slice_index_or}
use Rattle.shapley.specs.Layers.{common, units_below}
use Rattle.shapley.proofs.airport_steps.step_shares.Given as goal

abbrev pub invariant-loop-i : goal.invariant-loop-i
invariant-loop-i l =
    (length l.num.items ≡ l.i)
    × ((k : ℕ) → k < l.i
    → (slice_index_or l.num.items k (pos 0)
    ≡ neg_ℤ (units_below l.game.costs common (slice_index l.game.costs k)))
    × (unsigned_abs (slice_index_or l.num.items k (pos 0)) < 2 ^ 110))
