use Rattle.std.proofs.Common.{◌≡◌, ℕ, ◌<◌, length, pos, slice_index_or}
use Rattle.separation.specs.BlockBounds.{IsBlockBound}
use Rattle.separation.proofs.block_bounds.block_bounds_of.Given as goal

abbrev pub invariant-loop-block : goal.invariant-loop-block
invariant-loop-block g l = record {
  len : length l.block_bounds ≡ 256;
  done : (k : ℕ) → k < l.block → IsBlockBound (g.W.Worth.game l.game) k (slice_index_or l.block_bounds k (pos 0));
}
