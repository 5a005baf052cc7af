use Rattle.std.proofs.Common.{◌≡◌, ◌-◌, ◌≤◌, length}
use Rattle.std.specs.List.{AllByRecursion}
use Rattle.kohlberg.specs.Solved.{IsLowest}
use Rattle.airport.specs.Airport.{place}
use Rattle.orders.specs.Orders.{front}
use Rattle.airport_scheme.specs.Scheme.{pay_at}
use Rattle.airport_scheme.specs.Levels.{IsChain}
use Rattle.airport_scheme.proofs.blocks.all_levels.Given as goal

abbrev pub invariant-loop-i : goal.invariant-loop-i
invariant-loop-i l =
    IsChain (length l.game.costs) (place l.game) (pay_at l.paid.pay.items) l.paid.den 0 l.levels.items l.i
    × (l.i ≤ length l.game.costs) × (l.before ≡ front (place l.game) l.i) × AllByRecursion IsLowest l.levels.items

abbrev pub decreases-loop-i : goal.decreases-loop-i
decreases-loop-i l = length l.game.costs - l.i
