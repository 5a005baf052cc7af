use Rattle.std.proofs.Common.{◌^◌, ◌<◌, length, get_or, pos, unsigned_abs, arith}
use Rattle.airport.specs.Airport.{place}
use Rattle.airport_scheme.proofs.Places.{IsOrder-airport}
use Rattle.airport_scheme.proofs.Runs.{by_player_next}
use Rattle.airport_scheme.proofs.Sizes.{negated_value}
use Rattle.airport_scheme.proofs.payments.by_player.Goals as goal

pub loop-k-preserved : goal.loop-k-preserved
loop-k-preserved c =
    let inv = c.loop-k.invariant in
    let lt : c.loop-k.k < length c.args.game.now.costs = omega arith in
    let small : unsigned_abs (get_or c.args.pay.now c.loop-k.k (pos 0)) < 2 ^ 104 =
    c.requires.small c.loop-k.k (pos 0) (omega arith) in
    rw c.place.ensures.value
    (by_player_next (length c.args.game.now.costs) _ (place c.args.game.now)
    (λ k. get_or c.args.pay.now k (pos 0)) c.loop-k.num.items c.loop-k.k _
    (IsOrder-airport c.args.game.now c.len-n.ensures.laws) lt
    (negated_value (get_or c.args.pay.now c.loop-k.k (pos 0)) small) small inv.0 inv.1 inv.2)
