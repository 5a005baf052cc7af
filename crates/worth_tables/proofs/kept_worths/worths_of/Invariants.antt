use Rattle.std.proofs.Common.{◌≡◌, ◌<◌, ℕ, length, pos, slice_index_or}
use Rattle.worth_tables.proofs.kept_worths.worths_of.Given as goal

abbrev pub invariant-loop-s : goal.invariant-loop-s
invariant-loop-s g l = record {
  count : length l.worths.items ≡ l.s;
  each : (s : ℕ) → s < l.s → slice_index_or l.worths.items s (pos 0) ≡ (g.W.Worth.game l.game).worth s;
}
