use Rattle.std.proofs.Common.{arith, ◌≡◌, ◌∙◌, ◌<◌, ◌^◌, length}
use Rattle.std.proofs.lemmas.List.{length_push}
use Rattle.coalitions.proofs.Masks.{all_masks-turn, all_masks-end}
use Rattle.worth_core.proofs.Scan.{IsBestBelow-none, IsBestBelow-next, blocker-from_scan}
use Rattle.worth_core.proofs.Scan.{excess_is, paid_first, paid_here, paid_next}
use mir.Syntax.{w64, w128}
use Rattle.worth_core.proofs.worth.Worth.blocker.Goals as goal
use Rattle.definitions.proofs.Casts.{cast_kept}

pub worth-requires : goal.worth-requires
worth-requires g c =
    let turn =
    all_masks-turn c.players.result _ c.loop-s.yielded _ (cc) c.loop-s.yielded_by _ _ c.in-Some.s c.in-Some.is
    c.next.ensures.steps in
    rw c.players.ensures.count at turn.1

pub sum_after-paid-requires-clause-within : goal.sum_after-paid-requires-clause-within
sum_after-paid-requires-clause-within g c =
    let turn =
    all_masks-turn c.players.result _ c.loop-s.yielded _ (cc) c.loop-s.yielded_by _ _ c.in-Some.s c.in-Some.is
    c.next.ensures.steps in
    rw (c.requires) (rw c.players.ensures.count at turn.1)

pub sum_after-paid-requires-clause-before : goal.sum_after-paid-requires-clause-before
sum_after-paid-requires-clause-before g c =
    let turn =
    all_masks-turn c.players.result _ c.loop-s.yielded _ (cc) c.loop-s.yielded_by _ _ c.in-Some.s c.in-Some.is
    c.next.ensures.steps in
    paid_here c.args.x.now (length c.loop-s.yielded) c.in-Some.s _ turn.0 c.loop-s.invariant.1

pub excess_from-requires-clause-worth : goal.excess_from-requires-clause-worth
excess_from-requires-clause-worth g c =
    let turn =
    all_masks-turn c.players.result _ c.loop-s.yielded _ (cc) c.loop-s.yielded_by _ _ c.in-Some.s c.in-Some.is
    c.next.ensures.steps in
    let small = c.players.ensures.laws.small c.in-Some.s (rw c.players.ensures.count at turn.1) in
    let kept = cast_kept w64 c.worth.result (rw c.worth.ensures (omega arith)) in
    rw (kept, c.worth.ensures) small

pub loop-s-preserved : goal.loop-s-preserved
loop-s-preserved g c =
    let game = g.Self.Worth.game c.args.self.now in
    let x = c.args.x.now in
    let turn =
    all_masks-turn c.players.result _ c.loop-s.yielded _ (cc) c.loop-s.yielded_by _ _ c.in-Some.s c.in-Some.is
    c.next.ensures.steps in
    let within : c.in-Some.s < 2 ^ game.players = rw c.players.ensures.count at turn.1 in
    let sum = c.sum_after-paid.ensures in
    let here = excess_is game x c.in-Some.s c.worth.result c.sum_after-paid.result c.excess_from.result
    c.players.ensures.laws within c.worth.ensures sum.value sum.small c.excess_from.ensures.value in
    let kept = cast_kept w128 c.excess_from.result (omega (arith, c.excess_from.ensures.small)) in
    let paid =
    paid_next x (length c.loop-s.yielded) c.in-Some.s _ turn.0
    (cast_kept w128 c.sum_after-paid.result (omega arith) ∙ sum.value) in
    let best =
    IsBestBelow-next game x (length c.loop-s.yielded) c.in-Some.s c.loop-s.best.coalition c.or-best.result.coalition
    c.loop-s.best.excess _ c.or-best.result.excess c.loop-s.invariant.0 turn.0 (kept ∙ here) c.or-best.ensures.more
    c.or-best.ensures.no_more in
    rw (length_push c.loop-s.yielded c.in-Some.s) (best, paid)

pub returns : goal.returns
returns g c =
    let game = g.Self.Worth.game c.args.self.now in
    let end =
    all_masks-end c.players.result _ c.loop-s.yielded _ (cc) c.loop-s.yielded_by _ _ c.in-None.is
    c.next.ensures.steps in
    let all : length c.loop-s.yielded ≡ 2 ^ game.players = rw c.players.ensures.count at end in
    blocker-from_scan game c.args.x.now c.loop-s.best.coalition c.loop-s.best.excess
    (rw all at c.loop-s.invariant.0)

pub loop-s-init : goal.loop-s-init
loop-s-init g c =
    let none = c.none-best.ensures in (
      IsBestBelow-none (g.Self.Worth.game c.args.self.now) c.args.x.now _ _ none.coalition none.excess,
      paid_first c.args.x.now,
    )
