use Rattle.std.proofs.Common.{◌≡◌, ℕ, ◌+◌, ◌<◌, ◌≤◌, length}
use Rattle.voting.specs.Counts.{ways_at, row_at, smaller}
use Rattle.voting.proofs.counts.Table.add_player.Given as goal

abbrev pub invariant-loop-fewer : goal.invariant-loop-fewer
invariant-loop-fewer l = record {
  full : length l.self.rows.items ≡ 32;
  rest : (k : ℕ) → k + l.fewer < 32 → row_at l.self k ≡ row_at l.initial.self k;
  each : (k w : ℕ) → k < 32 → 32 ≤ k + l.fewer → w < 1001
      → ways_at l.self k w ≡ ways_at l.initial.self k w + smaller l.initial.self k l.weight w;
}
