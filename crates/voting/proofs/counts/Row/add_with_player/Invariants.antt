use Rattle.std.proofs.Common.{◌≡◌, ℕ, ◌+◌, ◌<◌, ◌≤◌, length}
use Rattle.voting.specs.Counts.{way_at, lighter}
use Rattle.voting.proofs.counts.Row.add_with_player.Given as goal

abbrev pub invariant-loop-w : goal.invariant-loop-w
invariant-loop-w l = record {
  full : length l.self.ways ≡ 1001;
  each : (v : ℕ) → v < l.w → way_at l.self v ≡ way_at l.initial.self v + lighter l.fewer l.weight v;
  rest : (v : ℕ) → l.w ≤ v → way_at l.self v ≡ way_at l.initial.self v;
}
