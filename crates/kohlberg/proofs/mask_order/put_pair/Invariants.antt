use Rattle.std.proofs.Common.{◌≡◌, ◌-◌, ◌≤◌, ◌++◌, take, drop, vec_len}
use Rattle.kohlberg.specs.Pairs.{with_pair}
use Rattle.kohlberg.proofs.mask_order.put_pair.Given as goal

abbrev pub invariant-loop-at : goal.invariant-loop-at
invariant-loop-at l =
    (l.at ≤ vec_len l.pairs)
    × (with_pair l.s l.weight l.pairs.items
    ≡ take l.at l.pairs.items ++ with_pair l.s l.weight (drop l.at l.pairs.items))

abbrev pub decreases-loop-at : goal.decreases-loop-at
decreases-loop-at l = vec_len l.pairs - l.at
