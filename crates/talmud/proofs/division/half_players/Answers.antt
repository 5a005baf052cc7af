use Rattle.std.proofs.Common.{arith, length}
use Rattle.orders.specs.Ordered.{number_at}
use Rattle.talmud.proofs.Sharing.{IsSplit-more}
use Rattle.talmud.proofs.division.half_players.Goals as goal

pub loop-half-preserved : goal.loop-half-preserved
loop-half-preserved c =
    let laws = c.len-n.ensures.laws in
    let le = rw (c.cut.ensures.value, c.place.ensures.value, c.len-n.ensures.count) at c.if-cut-n.true in
    rw (c.cut-left.ensures.value, c.place-in-loop-half.ensures.value)
    (IsSplit-more (length c.args.claims.now.numbers) (number_at c.args.claims.now) c.args.double c.loop-half.half
    c.loop-half.left laws.sorted.lists.rising (omega arith) le
    c.loop-half.invariant)
