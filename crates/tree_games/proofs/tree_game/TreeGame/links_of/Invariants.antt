use Rattle.std.proofs.Common.{◌≡◌, ◌<◌, ℕ, length, slice_index}
use Rattle.matrices.specs.Rows.{entries_of}
use Rattle.tree_games.proofs.tree_game.TreeGame.links_of.Given as goal

abbrev pub invariant-loop-j : goal.invariant-loop-j
invariant-loop-j l =
    (length l.links ≡ 17) × ((k : ℕ) → k < l.j → slice_index l.links k ≡ entries_of l.self l.p k)
