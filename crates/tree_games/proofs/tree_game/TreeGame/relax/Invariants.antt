use Rattle.std.proofs.Common.{◌≡◌, ◌<◌, ◌≤◌, ℕ, length, slice_index, min}
use Rattle.matrices.specs.Rows.{entries_of}
use Rattle.tree_games.proofs.tree_game.TreeGame.relax.Given as goal

abbrev pub invariant-loop-j : goal.invariant-loop-j
invariant-loop-j l =
    (length l.best ≡ 17)
    × ((k : ℕ) → k < l.j → slice_index l.best k ≡ min (slice_index l.initial.best k) (entries_of l.self l.p k))
    × ((k : ℕ) → l.j ≤ k → slice_index l.best k ≡ slice_index l.initial.best k)
