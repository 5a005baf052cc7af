use Rattle.std.proofs.Common.{◌≡◌, ◌<◌, length, length-set, ◌∙◌, to_z, of_z, rules}
use mir.Syntax.{w64}
use Rattle.spans.proofs.EightSums.{filled_below}
use Rattle.separation.specs.BlockBounds.{IsBlockBound}
use Rattle.separation.proofs.block_bounds.block_bounds_of.Goals as goal

pub loop-block-preserved : goal.loop-block-preserved
loop-block-preserved g c =
    let game = g.W.Worth.game c.args.game.now in
    let block_bounds = c.loop-block.block_bounds in
    let block = c.loop-block.block in
    let inv = c.loop-block.invariant in
    let len : block < length block_bounds = rw inv.len c.loop-block-test.true in
    let kept : to_z w64 (of_z w64 c.block_bound.result) ≡ c.block_bound.result = search rules in
    rw kept (record {
      len = length-set block_bounds block c.block_bound.result ∙ inv.len;
      done =
          filled_below (IsBlockBound game) block_bounds block c.block_bound.result len c.block_bound.ensures inv.done;
    })
