use Rattle.std.proofs.Common.{◌^◌, ◌%◌, ℤ, pos, ◌+ℤ◌, slice_index_or, ap, ◌∙◌}
use lib.Dec.{lit≤}
use Rattle.definitions.specs.Coalitions.{sum_over}
use Rattle.separation.specs.Values.{multiplier_at, low_of}
use Rattle.separation.proofs.Products.{sum_held}
use Rattle.separation.proofs.Valued.{sums_at}
use Rattle.separation.proofs.tables.Sums.of.Goals as goal

pub overflow_add-result : goal.overflow_add-result
overflow_add-result c =
    (sum_held c.low_at.result c.high_at.result (2 ^ 113) (2 ^ 113) c.low_at.ensures.small c.high_at.ensures.small
    (lit≤ tt)).0

pub returns-clause-value : goal.returns-clause-value
returns-clause-value c num n h =
    let sums = c.args.self.now in
    let s = c.s.inside.0 in
    (sum_held c.low_at.result c.high_at.result (2 ^ 113) (2 ^ 113) c.low_at.ensures.small c.high_at.ensures.small
    (lit≤ tt)).1.0
    ∙ ap (λ (z : ℤ). z +ℤ c.high_at.result) c.low_at.ensures.value
    ∙ ap (λ (z : ℤ). slice_index_or (low_of sums) (s % 256) (pos 0) +ℤ z) c.high_at.ensures.value
    ∙ sums_at num n s sums h
    ∙ ap (sum_over n (multiplier_at num)) c.s.view_is

pub returns-clause-small : goal.returns-clause-small
returns-clause-small c =
    (sum_held c.low_at.result c.high_at.result (2 ^ 113) (2 ^ 113) c.low_at.ensures.small c.high_at.ensures.small
    (lit≤ tt)).1.1
