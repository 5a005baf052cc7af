use Rattle.std.proofs.Common.{◌≡◌, ◌<◌, ◌^◌, ℤ, pos, unsigned_abs, slice_index_or, to_z, of_z, arith}
use mir.Syntax.{w64}
use Rattle.definitions.proofs.Casts.{cast_kept}
use Rattle.separation.proofs.SmallBounds.{block_bound_small}
use Rattle.separation.proofs.block_bounds.counted_bound.Goals as goal

-- a block_bound as it is kept
block_bound_kept : (z : ℤ) → unsigned_abs z < 2 ^ 46 → to_z w64 (of_z w64 z) ≡ z
block_bound_kept z small = cast_kept w64 z (omega (arith, small))

pub returns-then-scan-clause-greatest : goal.returns-then-scan-clause-greatest
returns-then-scan-clause-greatest g c = λ s lower upper within.
    let p = c.args.scan.now.program.now in
    let game = g.W.Worth.game p.game.now in
    let below = rw p.count at within in
    let block_bound = slice_index_or p.block_bounds c.args.block (pos 0) in
    let is = p.block_bounds_are c.args.block c.requires in
    let small = block_bound_small game c.args.block block_bound p.laws is in
    rw (block_bound_kept block_bound small) (rw c.if-scan.true (is.greatest s lower upper below))

pub returns-then-scan-clause-small : goal.returns-then-scan-clause-small
returns-then-scan-clause-small g c =
    let p = c.args.scan.now.program.now in
    let game = g.W.Worth.game p.game.now in
    let block_bound = slice_index_or p.block_bounds c.args.block (pos 0) in
    let small = block_bound_small game c.args.block block_bound p.laws (p.block_bounds_are c.args.block c.requires) in
    rw (block_bound_kept block_bound small) small

pub returns-else-scan-clause-greatest : goal.returns-else-scan-clause-greatest
returns-else-scan-clause-greatest g c = λ s lower upper within.
    let game = g.W.Worth.game c.args.scan.now.program.now.game.now in
    rw c.if-scan.false (omega arith)
