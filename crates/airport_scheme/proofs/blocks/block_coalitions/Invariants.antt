use Rattle.std.proofs.Common.{◌≡◌, ◌-◌, length, pos, nat_lt}
use Rattle.airport.specs.Airport.{place}
use Rattle.airport_scheme.specs.Levels.{with_others, front_pair}
use Rattle.airport_scheme.proofs.blocks.block_coalitions.Given as goal

abbrev pub invariant-loop-j : goal.invariant-loop-j
invariant-loop-j l =
    l.v.items
    ≡ with_others (length l.game.costs) (place l.game)
    (front_pair (place l.game) l.k (pos 1) (nat_lt l.k (length l.game.costs))) l.i (l.j - l.i)
