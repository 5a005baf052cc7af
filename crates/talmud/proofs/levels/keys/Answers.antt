use Rattle.std.proofs.Common.{length}
use Rattle.orders.specs.Ordered.{place}
use Rattle.talmud.specs.Levels.{key_of}
use Rattle.talmud.specs.Division.{is_gain}
use Rattle.talmud.proofs.Making.{with_keys-more}
use Rattle.talmud.proofs.levels.keys.Goals as goal

pub loop-j-preserved : goal.loop-j-preserved
loop-j-preserved c =
    let more =
    with_keys-more (key_of (length c.args.claims.now.numbers) (place c.args.claims.now) (is_gain c.args.side)) c.args.i
    c.loop-j.j c.loop-j.auto.j in
    let put = c.in_ok-put_pair.ensures in
    rw more (rw (c.key.ensures, c.len-n.ensures.count, c.place.ensures.value, c.loop-j.invariant) at put)
