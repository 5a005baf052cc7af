use Rattle.std.proofs.Common.{◌≡◌, ◌^◌, ◌<◌, map, pos}
use Rattle.drawn_games.specs.Draws.{state}
use Rattle.drawn_games.specs.Numbers.{long_draws}
use Rattle.drawn_games.proofs.draws.long_draws.Given as goal

abbrev pub invariant-loop-k : goal.invariant-loop-k
invariant-loop-k l =
    (l.draws.state ≡ state l.seed l.k) × (l.draws.state < 2 ^ 31)
    × (l.found.items ≡ map pos (long_draws l.seed l.k))
