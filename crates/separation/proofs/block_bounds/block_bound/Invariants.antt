use Rattle.std.proofs.Common.{ℕ, ◌*◌, ◌<◌, ◌≤◌, ℤ, pos, ◌≤ℤ◌}
use Rattle.separation.specs.BlockBounds.{AreAtMost}
use Rattle.separation.proofs.block_bounds.block_bound.Given as goal

abbrev pub invariant-loop-s : goal.invariant-loop-s
invariant-loop-s g l = record {
  positive : pos 0 ≤ℤ l.most;
  attained : (y : ℤ) → pos 0 ≤ℤ y → AreAtMost (g.W.Worth.game l.game) l.block y → l.most ≤ℤ y;
  greatest : (j : ℕ) → 256 * l.block ≤ j → j < l.s → (g.W.Worth.game l.game).worth j ≤ℤ l.most;
}
