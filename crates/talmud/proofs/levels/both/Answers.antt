use Rattle.std.proofs.Common.{length}
use Rattle.std.proofs.Math.Pow.{pow-lt}
use Rattle.orders.specs.Ordered.{place}
use Rattle.talmud.proofs.Making.{with_both-more}
use Rattle.talmud.proofs.levels.both.Goals as goal

pub complement-requires-clause-within : goal.complement-requires-clause-within
complement-requires-clause-within c =
    rw (c.single-single.ensures, c.len-n.ensures.count) (pow-lt c.place.ensures.player)

pub loop-j-preserved : goal.loop-j-preserved
loop-j-preserved c =
    let more =
    with_both-more (length c.args.claims.now.numbers) (place c.args.claims.now) c.args.i c.loop-j.j
    c.loop-j.auto.j in
    let single = c.single-single.ensures in
    let first = rw (single, c.place.ensures.value, c.loop-j.invariant) at c.in_ok-put_pair.ensures in
    let second = c.in_ok-put_pair-2.ensures in
    rw more (rw (c.complement.ensures, single, c.len-n.ensures.count, c.place.ensures.value, first) at second)
