use Rattle.std.proofs.Common.{◌≡◌, ◌<◌, ℕ, length, map}
use Rattle.matrices.specs.Rows.{entries_of}
use Rattle.tree_games.proofs.links.is_symmetric.Given as goal

abbrev pub invariant-loop-i : goal.invariant-loop-i
invariant-loop-i l =
    (k : ℕ) → k < l.i → (j : ℕ) → j < length l.matrix
    → entries_of (map (λ row. row.items) l.matrix) k j ≡ entries_of (map (λ row. row.items) l.matrix) j k
