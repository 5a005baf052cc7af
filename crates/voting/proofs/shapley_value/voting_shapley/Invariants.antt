use Rattle.std.proofs.Common.{◌≡◌, ◌<◌, ◌-◌, ℕ, ◌^◌, unsigned_abs, length, pos, slice_index, slice_index_or}
use Rattle.voting.specs.Counts.{numerator}
use Rattle.voting.proofs.shapley_value.voting_shapley.Given as goal

abbrev pub invariant-loop-i : goal.invariant-loop-i
invariant-loop-i l = record {
  count : length l.num.items ≡ l.i;
  each : (k : ℕ) → k < l.i
      → (slice_index_or l.num.items k (pos 0)
      ≡ numerator (slice_index l.game.weights) k (length l.game.weights)
      (l.game.quota - slice_index l.game.weights k) l.game.quota)
      × (unsigned_abs (slice_index_or l.num.items k (pos 0)) < 2 ^ 110);
}
