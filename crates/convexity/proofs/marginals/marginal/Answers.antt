use Rattle.std.proofs.Common.{◌≡◌, ◌<◌, ◌+◌, ◌^◌, ◌-ℤ◌, get_or, pos, to_z, of_z, unsigned_abs}
use Rattle.std.proofs.Common.{arith, ap, ◌∙◌}
use Rattle.std.proofs.lemmas.Int.{ints, fits_signed_from_abs}
use mir.Syntax.{w64, w128}
use Rattle.definitions.proofs.Casts.{cast_kept}
use Rattle.definitions.specs.Games.{IsShares}
use Rattle.definitions.proofs.Given.{is_some}
use Rattle.worth_core.specs.Allocations.{allocation}
use Rattle.convexity.proofs.Search.{with_one}
use Rattle.convexity.proofs.Partway.{partway_start, partway_next, partway_end, partway_fit, next_of}
use Rattle.convexity.proofs.MarginalCore.{marginal_in_core}
use Rattle.convexity.proofs.marginals.marginal.Goals as goal

pub loop-k-init : goal.loop-k-init
loop-k-init g c =
    let game = g.W.Worth.game c.args.game.now in
    rw (c.in_ok-num.ensures.items_if_clones_equal (λ y e. e), c.empty-front.ensures, c.players-n.ensures.count)
    (partway_start game c.args.order.now c.players-n.ensures.laws c.requires)

pub worth-after-requires : goal.worth-after-requires
worth-after-requires g c =
    let game = g.W.Worth.game c.args.game.now in
    let next =
    next_of game c.args.order.now c.loop-k.k c.loop-k.front _ c.loop-k.num.items c.loop-k.invariant
    c.loop-k-test.true in
    (with_one game.players c.loop-k.front (get_or c.args.order.now c.loop-k.k 0) c.with-front.result
    c.loop-k.invariant.within next.0 next.1 c.with-front.ensures).1

pub overflow_sub-after : goal.overflow_sub-after
overflow_sub-after g c =
    let game = g.W.Worth.game c.args.game.now in
    let laws = c.players-n.ensures.laws in
    let next =
    next_of game c.args.order.now c.loop-k.k c.loop-k.front _ c.loop-k.num.items c.loop-k.invariant
    c.loop-k-test.true in
    let joined =
    with_one game.players c.loop-k.front (get_or c.args.order.now c.loop-k.k 0) c.with-front.result
    c.loop-k.invariant.within next.0 next.1 c.with-front.ensures in
    let before = to_z w64 c.loop-k.before-bits in
    let a : unsigned_abs c.worth-after.result < 2 ^ 46 =
    rw c.worth-after.ensures (laws.small c.with-front.result joined.1) in
    let b : unsigned_abs before < 2 ^ 46 =
    rw c.loop-k.invariant.worth (laws.small c.loop-k.front c.loop-k.invariant.within) in
    let kept = cast_kept w64 c.worth-after.result (omega (arith, a)) in
    fits_signed_from_abs w64 _ (rw kept (omega (arith, ints, a, b)))

pub loop-k-preserved : goal.loop-k-preserved
loop-k-preserved g c =
    let game = g.W.Worth.game c.args.game.now in
    let laws = c.players-n.ensures.laws in
    let front = c.loop-k.front in
    let p = get_or c.args.order.now c.loop-k.k 0 in
    let next =
    next_of game c.args.order.now c.loop-k.k front _ c.loop-k.num.items c.loop-k.invariant c.loop-k-test.true in
    let joined =
    with_one game.players front p c.with-front.result c.loop-k.invariant.within next.0 next.1
    c.with-front.ensures in
    let before = to_z w64 c.loop-k.before-bits in
    let a : unsigned_abs c.worth-after.result < 2 ^ 46 =
    rw c.worth-after.ensures (laws.small c.with-front.result joined.1) in
    let b : unsigned_abs before < 2 ^ 46 =
    rw c.loop-k.invariant.worth (laws.small front c.loop-k.invariant.within) in
    let kept = cast_kept w64 c.worth-after.result (omega (arith, a)) in
    let difference : to_z w64 (of_z w64 (c.worth-after.result -ℤ before)) ≡ c.worth-after.result -ℤ before =
    cast_kept w64 (c.worth-after.result -ℤ before) (omega (arith, ints, a, b)) in
    let after : c.worth-after.result ≡ game.worth (front + 2 ^ p) =
    c.worth-after.ensures ∙ ap game.worth joined.0 in
    let from : c.from.result ≡ c.worth-after.result -ℤ before = rw (kept, difference) at c.from.ensures in
    let wide : to_z w128 (of_z w128 c.from.result) ≡ c.from.result =
    cast_kept w128 c.from.result (rw from (omega (arith, ints, a, b))) in
    rw (wide, from, kept, after, joined.0, c.loop-k.invariant.worth)
    (partway_next game c.args.order.now c.loop-k.k front _ c.loop-k.num.items laws c.loop-k.invariant
    c.loop-k-test.true)

pub returns-clause-core : goal.returns-clause-core
returns-clause-core g c = λ convex.
    let game = g.W.Worth.game c.args.game.now in
    let order = c.args.order.now in
    let made = rw c.unwrap.ensures at c.new.ensures in
    let marginal =
    partway_end game order c.loop-k.k c.loop-k.front _ c.loop-k.num.items c.loop-k.invariant
    (omega (arith, c.loop-k-test.false)) in
    marginal_in_core game order c.unwrap.result c.players-n.ensures.laws.nobody c.requires (rw made.0 marginal)
    convex

pub unwrap-requires : goal.unwrap-requires
unwrap-requires g c =
    let game = g.W.Worth.game c.args.game.now in
    is_some (IsShares (allocation c.loop-k.num.items (pos 1))) _ c.new.result c.new.ensures
    (partway_fit game c.args.order.now c.loop-k.k c.loop-k.front _ c.loop-k.num.items c.players-n.ensures.laws
    c.loop-k.invariant)

pub returns-clause-marginal : goal.returns-clause-marginal
returns-clause-marginal g c =
    let game = g.W.Worth.game c.args.game.now in
    let made = rw c.unwrap.ensures at c.new.ensures in
    let marginal =
    partway_end game c.args.order.now c.loop-k.k c.loop-k.front _ c.loop-k.num.items c.loop-k.invariant
    (omega (arith, c.loop-k-test.false)) in
    rw made.0 marginal
