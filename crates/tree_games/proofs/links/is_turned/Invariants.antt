use Rattle.std.proofs.Common.{◌≡◌, ◌<◌, ℕ, map}
use Rattle.matrices.specs.Rows.{entries_of}
use Rattle.tree_games.proofs.links.is_turned.Given as goal

abbrev pub invariant-loop-j : goal.invariant-loop-j
invariant-loop-j l =
    (k : ℕ) → k < l.j
    → entries_of (map (λ row. row.items) l.matrix) l.i k ≡ entries_of (map (λ row. row.items) l.matrix) k l.i
