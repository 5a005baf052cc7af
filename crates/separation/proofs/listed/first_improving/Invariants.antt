use Rattle.std.proofs.Common.{ℕ, ◌<◌}
use Rattle.separation.specs.Kept.{column_at}
use Rattle.separation.specs.Values.{Improves}
use Rattle.separation.proofs.listed.first_improving.Given as goal

abbrev pub invariant-loop-id : goal.invariant-loop-id
invariant-loop-id l =
    (j : ℕ) → j < l.id → ¬ Improves l.measure l.m.num.items l.m.den l.n l.with_costs (column_at l.columns j)
