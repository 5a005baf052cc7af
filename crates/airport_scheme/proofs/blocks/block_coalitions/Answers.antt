use Rattle.std.proofs.Common.{length, pos, nat_lt, arith}
use Rattle.std.proofs.Math.Pow.{pow-lt}
use Rattle.airport.specs.Airport.{place}
use Rattle.airport_scheme.proofs.Places.{place-below}
use Rattle.airport_scheme.specs.Levels.{front_pair}
use Rattle.airport_scheme.proofs.Runs.{with_others_more}
use Rattle.airport_scheme.proofs.blocks.block_coalitions.Goals as goal

pub complement-requires-clause-within : goal.complement-requires-clause-within
complement-requires-clause-within c =
    rw (c.single.ensures, c.len-n.ensures.count, c.place.ensures.value)
    (pow-lt
    (place-below c.args.game.now c.len-n.ensures.laws c.loop-j.j
    (omega arith)))

pub loop-j-preserved : goal.loop-j-preserved
loop-j-preserved c =
    let more =
    with_others_more (length c.args.game.now.costs) (place c.args.game.now)
    (front_pair (place c.args.game.now) c.args.k (pos 1) (nat_lt c.args.k (length c.args.game.now.costs)))
    c.args.i c.loop-j.j (omega arith) in
    let put = c.in_ok-put_pair.ensures in
    rw more
    (rw (c.complement.ensures, c.single.ensures, c.len-n.ensures.count, c.place.ensures.value, c.loop-j.invariant)
    at put)
