use Rattle.std.proofs.Common.{◌≡◌, ◌+◌, map, slice_index}
use Rattle.drawn_games.specs.Numbers.{rows_of, link}
use Rattle.drawn_games.proofs.matrices_of_draws.link_matrix.Given as goal

abbrev pub invariant-loop-i : goal.invariant-loop-i
invariant-loop-i l =
    map (λ row. row.items) l.matrix.items ≡ rows_of l.i (l.n + 1) (link (slice_index l.draws.items) l.n)
