use Rattle.std.proofs.Common.{refl, rules}
use Rattle.separation.proofs.scan.counted_worth.Goals as goal

pub returns-then-with_costs-clause-value : goal.returns-then-with_costs-clause-value
returns-then-with_costs-clause-value g c = rw c.if-with_costs.true (search rules)

pub returns-else-with_costs-clause-value : goal.returns-else-with_costs-clause-value
returns-else-with_costs-clause-value g c = rw c.if-with_costs.false refl
