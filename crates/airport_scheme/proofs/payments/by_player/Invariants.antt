use Rattle.std.proofs.Common.{◌≡◌, ℕ, ◌<◌, ◌^◌, length, get_or, pos, neg_ℤ, unsigned_abs}
use Rattle.std.specs.List.{All}
use Rattle.airport.specs.Airport.{place}
use Rattle.airport_scheme.proofs.payments.by_player.Given as goal

abbrev pub invariant-loop-k : goal.invariant-loop-k
invariant-loop-k l =
    (length l.num.items ≡ length l.game.costs)
    × ((k : ℕ) → k < l.k → get_or l.num.items (place l.game k) (pos 0) ≡ neg_ℤ (get_or l.pay k (pos 0)))
    × All (λ z. unsigned_abs z < 2 ^ 110) l.num.items
