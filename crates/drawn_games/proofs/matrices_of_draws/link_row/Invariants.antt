use Rattle.std.proofs.Common.{◌≡◌, map, pos, slice_index}
use Rattle.std.specs.List.{range_with_len}
use Rattle.drawn_games.specs.Numbers.{link}
use Rattle.drawn_games.proofs.matrices_of_draws.link_row.Given as goal

abbrev pub invariant-loop-j : goal.invariant-loop-j
invariant-loop-j l =
    l.row.items ≡ map (λ k. pos (link (slice_index l.draws) l.n l.i k)) (range_with_len 0 l.j)
