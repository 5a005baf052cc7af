use Rattle.std.proofs.Common.{refl}
use Rattle.std.proofs.lemmas.Bool.{false≢true}
use Rattle.separation.proofs.Balance.{masks_of}
use Rattle.separation.proofs.Searches
use Rattle.separation.proofs.pricing.first_one_by_one.Goals as goal

pub overflow_shl-mask-end : goal.overflow_shl-mask-end
overflow_shl-mask-end g c = Searches.below_64 c.args.scan.now.program.now.players c.args.scan.now.are_sums.few

pub marked_column-column-requires : goal.marked_column-column-requires
marked_column-column-requires g c =
    let scan = c.args.scan.now in
    rw (masks_of scan.program.now.players scan.are_sums.few) at c.loop-mask-test.true

pub returns-then-improves : goal.returns-then-improves
returns-then-improves g c =
    let scan = c.args.scan.now in
    Searches.first_here scan c.loop-mask.mask c.loop-mask.invariant
    (rw (masks_of scan.program.now.players scan.are_sums.few) at c.loop-mask-test.true)
    (rw c.marked_column-column.ensures at (c.if-improves.ensures.0 refl))

pub loop-mask-preserved : goal.loop-mask-preserved
loop-mask-preserved g c =
    Searches.none_more c.args.scan.now c.loop-mask.mask c.loop-mask.invariant
    (rw (← c.marked_column-column.ensures)
    (λ r. false≢true (c.if-improves.ensures.1 r)))

pub returns : goal.returns
returns g c =
    let scan = c.args.scan.now in
    Searches.none_at_all scan c.loop-mask.mask c.loop-mask.invariant _
    (masks_of scan.program.now.players scan.are_sums.few)
    c.loop-mask-test.false
