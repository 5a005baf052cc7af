use Rattle.std.proofs.Common.{◌≡◌, ◌-◌, ◌*◌, ◌^◌, ◌≤◌, get_or, pos}
use Rattle.definitions.specs.Coalitions.{sum_over}
use Rattle.orders.proofs.sums.sum_of.Given as goal

abbrev pub invariant-loop-i : goal.invariant-loop-i
invariant-loop-i l = (pos l.sum ≡ sum_over l.i (λ i. pos (get_or l.numbers i 0)) l.s) × (l.sum ≤ l.i * (2 ^ 40 - 1))
