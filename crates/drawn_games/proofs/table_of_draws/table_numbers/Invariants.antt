use Rattle.std.proofs.Common.{◌≡◌, ◌-◌, ◌^◌, ◌<◌, ◌≤◌, map}
use Rattle.std.specs.List.{range_with_len}
use Rattle.drawn_games.specs.Draws.{state}
use Rattle.drawn_games.specs.Numbers.{draws_before, table_number}
use Rattle.drawn_games.proofs.table_of_draws.table_numbers.Given as goal

abbrev pub invariant-loop-s : goal.invariant-loop-s
invariant-loop-s l =
    (1 ≤ l.s)
    × (l.draws.state ≡ state l.seed (draws_before l.s))
    × (l.draws.state < 2 ^ 31)
    × (l.numbers.items ≡ map (table_number l.seed) (range_with_len 1 (l.s - 1)))
