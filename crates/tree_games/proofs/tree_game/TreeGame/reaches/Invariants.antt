use Rattle.std.proofs.Common.{◌≡◌, ◌<◌, ℕ, length, slice_index}
use Rattle.definitions.specs.Coalitions.{has_player}
use Rattle.matrices.specs.Rows.{entries_of}
use Rattle.tree_games.specs.Steps.{reach}
use Rattle.tree_games.proofs.tree_game.TreeGame.reaches.Given as goal

abbrev pub invariant-loop-b : goal.invariant-loop-b
invariant-loop-b l =
    (length l.reaches ≡ 17)
    × ((k : ℕ) → k < l.b
    → slice_index l.reaches k ≡ reach (entries_of l.self) (length l.self) (has_player l.waiting) k)
