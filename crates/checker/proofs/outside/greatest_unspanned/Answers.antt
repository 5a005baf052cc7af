use Rattle.std.proofs.Common.{◌≡◌, ℕ, ◌-◌, ◌^◌, ◌<◌, length, to_z, of_z, rules, arith}
use Rattle.std.proofs.Common.{sym, ap, subst, ◌∙◌, inl}
use Rattle.std.proofs.lemmas.Bool.{false≢true}
use Rattle.std.proofs.lemmas.List.{length_push}
use Rattle.definitions.proofs.Casts.{cast_kept}
use mir.Syntax.{w128}
use Rattle.coalitions.specs.GrayOrder.{gray_mask, IsOnce}
use Rattle.coalitions.specs.declared.gray.GrayStep.{GrayStep}
use Rattle.coalitions.proofs.GrayOrder.{steps-turn, steps-end}
use Rattle.spans.specs.Outside.{is_marked}
use Rattle.spans.proofs.Marks.{below_all}
use Rattle.worth_core.proofs.Amounts.{amount-small}
use Rattle.worth_core.proofs.TopScan.{IsTop-start, IsTop-skip, IsTop-next}
use Rattle.checker.proofs.GrayScan.{IsMarked, none_at_end, greatest_at_end}
use Rattle.checker.proofs.Paid.{paid-start, paid-now, paid-next, flip_within}
use Rattle.checker.proofs.outside.greatest_unspanned.Goals as goal

pub paid_after-paid-requires-clause-player : goal.paid_after-paid-requires-clause-player
paid_after-paid-requires-clause-player g c =
    let turn =
    steps-turn c.players-2.result _ c.loop-mask.yielded _ (cc) c.loop-mask.yielded_by _ _ c.in-Some.field-0
    c.in-Some.is c.next.ensures.steps in
    flip_within c.players-2.result (length c.args.shares.now.shares) (length c.loop-mask.yielded)
    c.in-Some.field-0
    turn.0 (c.gray-mask-items.ensures.flips (length c.loop-mask.yielded) turn.1)
    (c.players-2.ensures.count ∙ sym c.requires.shares)

pub paid_after-paid-requires-clause-small : goal.paid_after-paid-requires-clause-small
paid_after-paid-requires-clause-small g c =
    let small =
    amount-small c.args.shares.now (gray_mask (length c.loop-mask.yielded - 1)) c.players.ensures.shares in
    rw c.loop-mask.invariant.paid small

pub contains-requires : goal.contains-requires
contains-requires g c =
    let turn =
    steps-turn c.players-2.result _ c.loop-mask.yielded _ (cc) c.loop-mask.yielded_by _ _ c.in-Some.field-0
    c.in-Some.is c.next.ensures.steps in
    let here : c.in-Some.field-0.mask ≡ gray_mask (length c.loop-mask.yielded) =
    ap (λ (t : GrayStep). t.mask) turn.0 in
    let fits = c.gray-mask-items.ensures.within (length c.loop-mask.yielded) turn.1 in
    rw here
    (below_all c.players-2.result (gray_mask (length c.loop-mask.yielded))
    (rw c.players-2.ensures.count c.requires.few) fits)

pub of_paid-here-requires-clause-paid : goal.of_paid-here-requires-clause-paid
of_paid-here-requires-clause-paid g c =
    let turn =
    steps-turn c.players-2.result _ c.loop-mask.yielded _ (cc) c.loop-mask.yielded_by _ _ c.in-Some.field-0
    c.in-Some.is c.next.ensures.steps in
    let here : c.in-Some.field-0.mask ≡ gray_mask (length c.loop-mask.yielded) =
    ap (λ (t : GrayStep). t.mask) turn.0 in
    let x = c.args.shares.now in
    let k = length c.loop-mask.yielded in
    let paid =
    paid-now x c.players-2.result k c.in-Some.field-0 _ c.paid_after-paid.result
    (c.players-2.ensures.count ∙ sym c.requires.shares) turn.0 (c.gray-mask-items.ensures.flips k turn.1)
    c.loop-mask.invariant.paid c.paid_after-paid.ensures in
    let small = amount-small x (gray_mask k) c.players.ensures.shares in
    let kept = cast_kept w128 c.paid_after-paid.result (rw paid (omega (arith, small))) in
    rw here (kept ∙ paid)

pub loop-mask-init : goal.loop-mask-init
loop-mask-init g c = record {
  paid = paid-start c.args.shares.now;
  top =
      IsTop-start c.args.measure (g.W.Worth.game c.args.game.now) c.args.shares.now (IsMarked c.args.outside.now)
      gray_mask;
}

pub loop-mask-preserved : goal.loop-mask-preserved
loop-mask-preserved g c =
    let game = g.W.Worth.game c.args.game.now in
    let turn =
    steps-turn c.players-2.result _ c.loop-mask.yielded _ (cc) c.loop-mask.yielded_by _ _ c.in-Some.field-0
    c.in-Some.is c.next.ensures.steps in
    let here : c.in-Some.field-0.mask ≡ gray_mask (length c.loop-mask.yielded) =
    ap (λ (t : GrayStep). t.mask) turn.0 in
    let x = c.args.shares.now in
    let k = length c.loop-mask.yielded in
    let paid =
    paid-now x c.players-2.result k c.in-Some.field-0 _ c.paid_after-paid.result
    (c.players-2.ensures.count ∙ sym c.requires.shares) turn.0 (c.gray-mask-items.ensures.flips k turn.1)
    c.loop-mask.invariant.paid c.paid_after-paid.ensures in
    let small = amount-small x (gray_mask k) c.players.ensures.shares in
    let kept = cast_kept w128 c.paid_after-paid.result (rw paid (omega (arith, small))) in
    let off = sym (ap (is_marked c.args.outside.now) here) ∙ sym c.contains.ensures ∙ c.if-contains.false in
    rw (length_push c.loop-mask.yielded c.in-Some.field-0)
    (record {
      paid = kept ∙ paid-next x k c.paid_after-paid.result paid;
      top =
          IsTop-skip c.args.measure game x (IsMarked c.args.outside.now) gray_mask k c.loop-mask.most
          c.loop-mask.invariant.top (λ on. false≢true (sym off ∙ on));
    })

pub loop-mask-preserved-then-contains : goal.loop-mask-preserved-then-contains
loop-mask-preserved-then-contains g c =
    let game = g.W.Worth.game c.args.game.now in
    let turn =
    steps-turn c.players-2.result _ c.loop-mask.yielded _ (cc) c.loop-mask.yielded_by _ _ c.in-Some.field-0
    c.in-Some.is c.next.ensures.steps in
    let here : c.in-Some.field-0.mask ≡ gray_mask (length c.loop-mask.yielded) =
    ap (λ (t : GrayStep). t.mask) turn.0 in
    let x = c.args.shares.now in
    let k = length c.loop-mask.yielded in
    let paid =
    paid-now x c.players-2.result k c.in-Some.field-0 _ c.paid_after-paid.result
    (c.players-2.ensures.count ∙ sym c.requires.shares) turn.0 (c.gray-mask-items.ensures.flips k turn.1)
    c.loop-mask.invariant.paid c.paid_after-paid.ensures in
    let small = amount-small x (gray_mask k) c.players.ensures.shares in
    let kept = cast_kept w128 c.paid_after-paid.result (rw paid (omega (arith, small))) in
    let on = sym (ap (is_marked c.args.outside.now) here) ∙ sym c.contains.ensures ∙ c.if-contains.true in
    let some = c.requires.of_players (gray_mask k) on in
    let divided = rw here at c.of_paid-here.ensures in
    let top =
    IsTop-next c.args.measure game x (IsMarked c.args.outside.now) gray_mask k c.loop-mask.most
    c.replaced_if-most.result c.of_paid-here.result c.is_more-is_greatest.result c.is_more-is_greatest.result
    c.requires.measurable c.loop-mask.invariant.top some.0 some.1 divided c.is_more-is_greatest.ensures
    (λ e. (e, on)) (λ e. inl e) c.replaced_if-most.ensures.taken c.replaced_if-most.ensures.kept in
    rw (length_push c.loop-mask.yielded c.in-Some.field-0)
    (record { paid = kept ∙ paid-next x k c.paid_after-paid.result paid; top = top })

pub returns-in_err-most : goal.returns-in_err-most
returns-in_err-most g c =
    let game = g.W.Worth.game c.args.game.now in
    let end =
    steps-end c.players-2.result _ c.loop-mask.yielded _ (cc) c.loop-mask.yielded_by _ _ c.in-None.is
    c.next.ensures.steps in
    let count = c.players-2.ensures.count in
    let all : length c.loop-mask.yielded ≡ 2 ^ game.players = rw count at end in
    let once = subst (λ (n : ℕ). (s : ℕ) → s < 2 ^ n → IsOnce n s) count c.gray-mask-items.ensures.once in
    rw c.from_residual.ensures
    (λ levels marks. none_at_end c.args.measure game c.args.shares.now c.args.outside.now levels marks once
    (rw (all, c.in_err-most.was) at c.loop-mask.invariant.top))

pub returns : goal.returns
returns g c =
    let game = g.W.Worth.game c.args.game.now in
    let end =
    steps-end c.players-2.result _ c.loop-mask.yielded _ (cc) c.loop-mask.yielded_by _ _ c.in-None.is
    c.next.ensures.steps in
    let count = c.players-2.ensures.count in
    let all : length c.loop-mask.yielded ≡ 2 ^ game.players = rw count at end in
    let once = subst (λ (n : ℕ). (s : ℕ) → s < 2 ^ n → IsOnce n s) count c.gray-mask-items.ensures.once in
    let den : to_z w128 (of_z w128 c.den.result) ≡ c.den.result = search rules in
    let ratio = rw (den, c.den.ensures.value) at c.over.ensures in
    λ levels marks. greatest_at_end c.args.measure game c.args.shares.now c.args.outside.now levels
    c.in_ok-most.field-0 c.over.result c.requires.measurable marks once
    (rw (all, c.in_ok-most.was) at c.loop-mask.invariant.top) ratio
