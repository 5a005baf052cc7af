use Rattle.std.proofs.Common.{ℤ, pos, ◌+ℤ◌, ◌^◌, slice_index_or, ap, ◌∙◌, le_of_lt, le_trans}
use lib.Dec.{lit≤}
use Rattle.separation.specs.Values.{high_of}
use Rattle.separation.proofs.Products.{sum_held}
use Rattle.separation.proofs.tables.Sums.base.Goals as goal

pub overflow_add-result : goal.overflow_add-result
overflow_add-result c =
    (sum_held c.high_at.result c.level_multiplier.result (2 ^ 113) (2 ^ 110) c.high_at.ensures.small
    (le_of_lt c.level_multiplier.ensures.small) (lit≤ tt)).0

pub returns-clause-value : goal.returns-clause-value
returns-clause-value c =
    (sum_held c.high_at.result c.level_multiplier.result (2 ^ 113) (2 ^ 110) c.high_at.ensures.small
    (le_of_lt c.level_multiplier.ensures.small) (lit≤ tt)).1.0
    ∙ ap (λ (z : ℤ). z +ℤ c.level_multiplier.result) c.high_at.ensures.value
    ∙ ap (λ (z : ℤ). slice_index_or (high_of c.args.self.now) c.args.block (pos 0) +ℤ z)
    c.level_multiplier.ensures.value

pub returns-clause-small : goal.returns-clause-small
returns-clause-small c =
    le_trans (sum_held c.high_at.result c.level_multiplier.result (2 ^ 113) (2 ^ 110) c.high_at.ensures.small
    (le_of_lt c.level_multiplier.ensures.small) (lit≤ tt)).1.1 (lit≤ tt)
