use Rattle.std.proofs.Common.{◌%◌, ℤ, pos, ◌+ℤ◌, slice_index_or, ap, ◌∙◌, sym, le_trans}
use Rattle.separation.specs.Values.{low_of}
use Rattle.separation.specs.declared.tables.Sums.{Sums}
use Rattle.separation.proofs.Products.{narrowed}
use lib.Dec.{lit≤}
use Rattle.separation.proofs.pricing.best_of_block.Goals as goal

pub best_of_block_narrow-requires-clause-values : goal.best_of_block_narrow-requires-clause-values
best_of_block_narrow-requires-clause-values g c s lower upper =
    let base = c.base-base.result in
    let small = rw c.unsigned_abs.ensures.value at c.if-unsigned_abs.true in
    let kept = narrowed base c.base-base.ensures.small small in
    ap (λ (z : ℤ). z +ℤ slice_index_or c.in-Narrow.narrow.low.now (s % 256) (pos 0)) kept
    ∙ ap (λ (t : Sums). base +ℤ slice_index_or (low_of t) (s % 256) (pos 0)) (sym c.in-Narrow.is)
    ∙ c.base-base.ensures.values s lower upper

pub best_of_block_narrow-requires-clause-low : goal.best_of_block_narrow-requires-clause-low
best_of_block_narrow-requires-clause-low g c k lt =
    le_trans (c.args.scan.now.are_sums.room c.in-Narrow.narrow c.in-Narrow.is k lt) (lit≤ tt)
