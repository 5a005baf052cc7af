use Rattle.separation.proofs.Balance.{balanced_small}
use Rattle.separation.proofs.LazyColumns.{balanced_kept}
use Rattle.separation.proofs.ProperColumns.{plain_short}
use Rattle.separation.specs.Fronts.{lazy_columns}
use Rattle.std.proofs.Common.{None}
use Rattle.separation.proofs.lazy.Lazy.balanced.Goals as goal

pub invariant_of-result-clause-small : goal.invariant_of-result-clause-small
invariant_of-result-clause-small g c =
    balanced_small (g.W.Worth.game c.args.game.now) c.players-players.ensures.laws

pub invariant_of-result-clause-short : goal.invariant_of-result-clause-short
invariant_of-result-clause-short g c =
    plain_short c.players-players.result 0 (lazy_columns (g.W.Worth.game c.args.game.now) None None)

pub returns-clause-program : goal.returns-clause-program
returns-clause-program g c =
    balanced_kept (g.W.Worth.game c.args.game.now) c.players-players.result c.players-players.ensures.count
    c.players-players.ensures.laws
