use Rattle.std.proofs.Common.{◌≡◌}
use Rattle.voting.specs.Candidates.{best_below}
use Rattle.voting.proofs.layer.Layer.best.Given as goal

abbrev pub invariant-loop-w : goal.invariant-loop-w
invariant-loop-w l = l.best ≡ best_below l.more l.quota l.self l.w
