use Rattle.convexity.proofs.Partway.{IsPartway}
use Rattle.convexity.proofs.marginals.marginal.Given as goal

abbrev pub invariant-loop-k : goal.invariant-loop-k
invariant-loop-k g l = IsPartway (g.W.Worth.game l.game) l.order l.k l.front l.before l.num.items
