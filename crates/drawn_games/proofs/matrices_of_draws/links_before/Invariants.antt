use Rattle.std.proofs.Common.{◌≡◌, ◌*◌, ◌≤◌}
use Rattle.drawn_games.specs.Numbers.{links_before}
use Rattle.drawn_games.proofs.matrices_of_draws.links_before.Given as goal

abbrev pub invariant-loop-k : goal.invariant-loop-k
invariant-loop-k l = (l.count ≡ links_before l.n l.k) × (l.count ≤ 16 * l.k)
