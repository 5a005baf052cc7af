use Rattle.std.proofs.Common.{pos, ◌<◌, length, arith}
use Rattle.airport.specs.Airport.{place}
use Rattle.airport_scheme.proofs.Places.{IsOrder-airport}
use Rattle.airport_scheme.specs.Scheme.{pay_at}
use Rattle.airport_scheme.proofs.Sizes.{same_small}
use Rattle.airport_scheme.proofs.Solved.{front-with, same_more}
use Rattle.airport_scheme.proofs.blocks.block_end.Goals as goal

pub loop-k-preserved : goal.loop-k-preserved
loop-k-preserved c =
    let inv = c.loop-k.invariant in
    let lt : c.loop-k.k < length c.args.game.now.costs = omega arith in
    let each = rw c.place.ensures.value at c.with-after.ensures in (
      omega arith,
      omega arith,
      same_more (pay_at c.args.pay.now) c.args.i c.loop-k.k inv.2
          (same_small (pay_at c.args.pay.now c.loop-k.k) (pay_at c.args.pay.now c.args.i)
          (c.requires.small c.loop-k.k (pos 0) (omega arith))
          (c.requires.small c.args.i (pos 0) (omega arith)) c.if-pay-k.true),
      front-with (length c.args.game.now.costs) _ (place c.args.game.now)
          (IsOrder-airport c.args.game.now c.len-n.ensures.laws) c.loop-k.k c.loop-k.after c.with-after.result lt
          inv.3 each,
    )
