use Rattle.std.proofs.Common.{ℕ, ℤ, pos, ◌*ℤ◌, ap, ◌∙◌}
use Rattle.definitions.specs.Measures.{divisor}
use Rattle.separation.proofs.Products.{level_product}
use Rattle.separation.proofs.sums.level_value.Goals as goal

pub overflow_mul-result : goal.overflow_mul-result
overflow_mul-result c =
    (level_product c.from.result c.level_multiplier.result c.level_entry.result c.from.ensures
    c.level_entry.ensures.small c.level_multiplier.ensures.small).0

pub returns-clause-value : goal.returns-clause-value
returns-clause-value c =
    (level_product c.from.result c.level_multiplier.result c.level_entry.result c.from.ensures
    c.level_entry.ensures.small c.level_multiplier.ensures.small).1.0
    ∙ ap (λ (k : ℕ). pos k *ℤ c.level_multiplier.result) c.level_entry.ensures.value
    ∙ ap (λ (z : ℤ). pos (divisor c.args.measure c.args.s) *ℤ z) c.level_multiplier.ensures.value

pub returns-clause-small : goal.returns-clause-small
returns-clause-small c =
    (level_product c.from.result c.level_multiplier.result c.level_entry.result c.from.ensures
    c.level_entry.ensures.small c.level_multiplier.ensures.small).1.1
