use Rattle.std.proofs.Common.{◌≡◌, ℕ, ◌-◌, ◌<◌, ◌≤◌, length}
use Rattle.airport.specs.Airport.{place}
use Rattle.orders.specs.Orders.{front}
use Rattle.airport_scheme.specs.Scheme.{pay_at}
use Rattle.airport_scheme.proofs.blocks.block_end.Given as goal

abbrev pub invariant-loop-k : goal.invariant-loop-k
invariant-loop-k l =
    (l.i ≤ l.k) × (l.k ≤ length l.game.costs) × ((j : ℕ) → l.i ≤ j → j < l.k → pay_at l.pay j ≡ pay_at l.pay l.i)
    × (l.after ≡ front (place l.game) l.k)

abbrev pub decreases-loop-k : goal.decreases-loop-k
decreases-loop-k l = length l.game.costs - l.k
