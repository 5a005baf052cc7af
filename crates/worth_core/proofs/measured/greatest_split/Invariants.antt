use Rattle.std.proofs.Common.{◌≡◌, ◌-◌, ◌+◌, ◌^◌, ◌<◌, IsTrue}
use Rattle.definitions.specs.Games.{amount}
use Rattle.worth_core.proofs.SplitScan.{is_split}
use Rattle.worth_core.proofs.TopScan.{IsTop, ascending}
use Rattle.worth_core.proofs.measured.greatest_split.Given as goal

abbrev pub invariant-loop-next : goal.invariant-loop-next
invariant-loop-next g l =
    (l.s < 2 ^ (g.W.Worth.game l.game).players)
    × IsTop l.measure (g.W.Worth.game l.game) l.x (λ t. IsTrue (is_split (g.W.Worth.game l.game) l.free t))
    ascending (l.s + 1) l.most × (l.paid ≡ amount l.x l.s)

abbrev pub decreases-loop-next : goal.decreases-loop-next
decreases-loop-next g l = 2 ^ (g.W.Worth.game l.game).players - l.s
