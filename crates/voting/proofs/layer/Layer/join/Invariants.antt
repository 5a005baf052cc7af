use Rattle.std.proofs.Common.{◌≡◌, ℕ, ◌+◌, ◌<◌, ◌≤◌, length, IfSome}
use Rattle.voting.specs.Candidates.{at_weight, given_or, joined_at, IsSmallCandidate}
use Rattle.voting.proofs.layer.Layer.join.Given as goal

abbrev pub invariant-loop-fewer : goal.invariant-loop-fewer
invariant-loop-fewer l = record {
  full : length l.self.entries ≡ 1001;
  entries : (v : ℕ) → v < 1001 → 1001 ≤ v + l.fewer
      → at_weight l.self v
      ≡ joined_at (given_or l.without l.initial.self) (given_or l.with l.initial.self) l.i l.weight l.number v;
  rest : (v : ℕ) → v + l.fewer < 1001 → at_weight l.self v ≡ at_weight l.initial.self v;
  small : (v : ℕ) → v < 1001 → 1001 ≤ v + l.fewer → IfSome (at_weight l.self v) (IsSmallCandidate (l.i + 1));
}
