use Rattle.std.proofs.Common.{ℕ, ◌<◌}
use Rattle.definitions.specs.declared.Family.TheVariants.{Imputations}
use Rattle.separation.specs.Making.{bound}
use Rattle.separation.specs.Scanned.{game_of, ImprovesIn}
use Rattle.separation.proofs.front.first_bound.Given as goal

abbrev pub invariant-loop-i : goal.invariant-loop-i
invariant-loop-i g l = (j : ℕ) → j < l.i → ¬ ImprovesIn l.scan (bound Imputations (game_of l.scan) l.levels j)
