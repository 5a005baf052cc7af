use Rattle.std.proofs.Common.{◌≡◌, ℕ, ◌<◌, length}
use Rattle.determinants.specs.Matrix.{weight_at}
use Rattle.simplex.specs.Program.{right_side}
use Rattle.simplex.proofs.columns.load_right.Given as goal

abbrev pub invariant-loop-i : goal.invariant-loop-i
invariant-loop-i g l = record {
  len : length l.entries ≡ 32;
  done : (i : ℕ) → i < l.i → weight_at l.entries i ≡ right_side (g.C.Columns.program l.columns) i;
}
