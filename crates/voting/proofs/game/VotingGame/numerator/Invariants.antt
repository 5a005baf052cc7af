use Rattle.std.proofs.Common.{◌≡◌, ◌*◌, ◌^◌, ◌≤◌, ◌-◌, pos, ◌*ℤ◌, length, slice_index}
use Rattle.definitions.specs.Sums.{sum_below}
use Rattle.voting.specs.Counts.{share_unit, row_total}
use Rattle.voting.proofs.game.VotingGame.numerator.Given as goal

abbrev pub invariant-loop-k : goal.invariant-loop-k
invariant-loop-k l = record {
  value : pos l.total
      ≡ sum_below l.k
      (λ k. pos (share_unit (length l.self.weights) k)
      *ℤ row_total (slice_index l.self.weights) l.i (length l.self.weights) k
      (l.self.quota - slice_index l.self.weights l.i) l.self.quota);
  small : l.total ≤ l.k * 2 ^ 90;
}
