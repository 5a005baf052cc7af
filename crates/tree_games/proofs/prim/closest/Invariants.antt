use Rattle.std.proofs.Common.{◌≡◌, ◌<◌, length, slice_index}
use Rattle.definitions.specs.Coalitions.{has_player}
use Rattle.tree_games.specs.Steps.{closest}
use Rattle.tree_games.proofs.prim.closest.Given as goal

abbrev pub invariant-loop-t : goal.invariant-loop-t
invariant-loop-t l =
    (l.p ≡ closest (slice_index l.numbers) (has_player l.given) l.t) × (l.p < l.points) × (length l.numbers ≡ 17)
