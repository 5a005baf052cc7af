use Rattle.std.proofs.Common.{ℕ, ℤ, pos, ◌+ℤ◌, ◌%◌, ◌^◌, slice_index_or, ap, ◌∙◌, le_trans}
use lib.Dec.{lit≤}
use Rattle.separation.specs.Values.{low_of}
use Rattle.separation.proofs.Products.{sum_held}
use Rattle.separation.proofs.tables.Sums.behind.Goals as goal

pub overflow_add-result : goal.overflow_add-result
overflow_add-result c =
    (sum_held c.args.base c.low_at.result (2 ^ 114) (2 ^ 113) c.requires c.low_at.ensures.small (lit≤ tt)).0

pub returns-clause-small : goal.returns-clause-small
returns-clause-small c =
    le_trans
    (sum_held c.args.base c.low_at.result (2 ^ 114) (2 ^ 113) c.requires c.low_at.ensures.small (lit≤ tt)).1.1
    (lit≤ tt)

pub returns-clause-value : goal.returns-clause-value
returns-clause-value c =
    (sum_held c.args.base c.low_at.result (2 ^ 114) (2 ^ 113) c.requires c.low_at.ensures.small (lit≤ tt)).1.0
    ∙ ap (λ (z : ℤ). c.args.base +ℤ z) c.low_at.ensures.value
    ∙ ap (λ (t : ℕ). c.args.base +ℤ slice_index_or (low_of c.args.self.now) (t % 256) (pos 0)) c.s.view_is
