use Rattle.std.proofs.Common.{◌≡◌, ◌^◌, ◌<◌, map}
use Rattle.std.specs.List.{range_with_len}
use Rattle.drawn_games.specs.Draws.{state, short_draw}
use Rattle.drawn_games.proofs.draws.short_draws.Given as goal

abbrev pub invariant-loop-k : goal.invariant-loop-k
invariant-loop-k l =
    (l.draws.state ≡ state l.seed l.k) × (l.draws.state < 2 ^ 31)
    × (l.found.items ≡ map (short_draw l.seed) (range_with_len 0 l.k))
