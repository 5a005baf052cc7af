use Rattle.std.proofs.Common.{◌≡◌, ◌<◌, ℕ, map}
use Rattle.matrices.specs.Rows.{entries_of}
use Rattle.tree_games.proofs.links.is_loopless.Given as goal

abbrev pub invariant-loop-i : goal.invariant-loop-i
invariant-loop-i l =
    (k : ℕ) → k < l.i → entries_of (map (λ row. row.items) l.matrix) k k ≡ 0
