use Rattle.std.proofs.Common.{ap, ◌∙◌, arith, length, slice_index}
use Rattle.definitions.specs.Coalitions.{has_player}
use Rattle.matrices.specs.Rows.{entries_of}
use Rattle.tree_games.specs.Steps.{closest}
use Rattle.tree_games.proofs.Nearest.{closest-same}
use Rattle.tree_games.proofs.tree_game.TreeGame.nearest.Goals as goal

pub returns-clause-value : goal.returns-clause-value
returns-clause-value c =
    let m = length c.args.self.now in
    c.closest.ensures.value
    ∙ ap (closest (slice_index c.links_of-links.result) (has_player c.args.waiting)) c.points.ensures.count
    ∙ closest-same (slice_index c.links_of-links.result) (entries_of c.args.self.now c.args.p)
    (has_player c.args.waiting) m m (omega arith) c.links_of-links.ensures.value
