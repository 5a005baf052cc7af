use Rattle.std.proofs.Common.{ap, ◌∙◌, arith, length, slice_index}
use Rattle.definitions.specs.Coalitions.{has_player}
use Rattle.matrices.specs.Rows.{entries_of}
use Rattle.tree_games.specs.Steps.{closest, reach}
use Rattle.tree_games.proofs.Nearest.{closest-same}
use Rattle.tree_games.proofs.tree_game.TreeGame.next_end.Goals as goal

pub returns-clause-value : goal.returns-clause-value
returns-clause-value c =
    let m = length c.args.self.now in
    c.closest.ensures.value
    ∙ ap (closest (slice_index c.reaches-reaches.result) (has_player c.args.connected)) c.points.ensures.count
    ∙ closest-same (slice_index c.reaches-reaches.result)
    (reach (entries_of c.args.self.now) m (has_player c.args.waiting)) (has_player c.args.connected) m m
    (omega arith) c.reaches-reaches.ensures.value
