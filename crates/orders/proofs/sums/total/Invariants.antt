use Rattle.std.proofs.Common.{◌≡◌, ◌*◌, ◌^◌, ◌≤◌, take, unsigned_abs}
use Rattle.std.specs.List.{sum_by}
use Rattle.orders.proofs.sums.total.Given as goal

abbrev pub invariant-loop-z : goal.invariant-loop-z
invariant-loop-z l = (l.total ≡ sum_by unsigned_abs (take l.z-index l.numbers)) × (l.total ≤ l.z-index * 2 ^ 40)
