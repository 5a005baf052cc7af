use Rattle.std.proofs.Common.{◌≡◌, ◌∙◌, ℕ, ◌<◌, ◌^◌, ℤ, Bool, length, true, false}
use Rattle.std.proofs.Common.{arith, rules, sym, ap, to_z, of_z}
use Rattle.std.proofs.lemmas.List.{length_push}
use Rattle.coalitions.proofs.Masks.{all_masks-turn, all_masks-end}
use Rattle.worth_core.proofs.Scan.{excess_is, paid_first, paid_here, paid_next}
use Rattle.worth_core.proofs.SplitScan.{is_split, IsGreatestBelow-none, IsGreatestBelow-kept}
use Rattle.worth_core.proofs.SplitScan.{IsGreatestBelow-more, IsSplitMaximum-from_scan, some-from_scan}
use Rattle.definitions.specs.Games.{Game, Allocation, excess}
use mir.Syntax.{w64, w128}
use Rattle.worth_core.proofs.worth.Worth.split_bound.Goals as goal
use Rattle.definitions.proofs.Casts.{cast_kept}

excess_at : (g : Game) (x : Allocation) (s m : ℕ) (e : ℤ) → s ≡ m → e ≡ excess g x s → e ≡ excess g x m
excess_at g x s m e place same = same ∙ ap (excess g x) place

split_at : (g : Game) (f s m : ℕ) (b r : Bool) → s ≡ m → r ≡ is_split g f s → r ≡ b → is_split g f m ≡ b
split_at g f s m b r place same h = ap (is_split g f) (sym place) ∙ sym same ∙ h

pub worth-requires : goal.worth-requires
worth-requires g c =
    let turn =
    all_masks-turn c.players-players.result _ c.loop-s.yielded _ (cc) c.loop-s.yielded_by _ _ c.in-Some.s
    c.in-Some.is c.next.ensures.steps in
    rw c.players-players.ensures.count at turn.1

pub sum_after-paid-requires-clause-within : goal.sum_after-paid-requires-clause-within
sum_after-paid-requires-clause-within g c =
    let turn =
    all_masks-turn c.players-players.result _ c.loop-s.yielded _ (cc) c.loop-s.yielded_by _ _ c.in-Some.s
    c.in-Some.is c.next.ensures.steps in
    rw (c.requires.shares) (rw c.players-players.ensures.count at turn.1)

pub sum_after-paid-requires-clause-before : goal.sum_after-paid-requires-clause-before
sum_after-paid-requires-clause-before g c =
    let turn =
    all_masks-turn c.players-players.result _ c.loop-s.yielded _ (cc) c.loop-s.yielded_by _ _ c.in-Some.s
    c.in-Some.is c.next.ensures.steps in
    paid_here c.args.x.now (length c.loop-s.yielded) c.in-Some.s _ turn.0 c.loop-s.invariant.1

pub excess_from-requires-clause-worth : goal.excess_from-requires-clause-worth
excess_from-requires-clause-worth g c =
    let turn =
    all_masks-turn c.players-players.result _ c.loop-s.yielded _ (cc) c.loop-s.yielded_by _ _ c.in-Some.s
    c.in-Some.is c.next.ensures.steps in
    let small = c.players-players.ensures.laws.small c.in-Some.s (rw c.players-players.ensures.count at turn.1) in
    let kept = cast_kept w64 c.worth.result (rw c.worth.ensures (omega arith)) in
    rw (kept, c.worth.ensures) small

pub loop-s-preserved-then-splits : goal.loop-s-preserved-then-splits
loop-s-preserved-then-splits g c =
    let game = g.Self.Worth.game c.args.self.now in
    let x = c.args.x.now in
    let s = c.in-Some.s in
    let turn =
    all_masks-turn c.players-players.result _ c.loop-s.yielded _ (cc) c.loop-s.yielded_by _ _ s c.in-Some.is
    c.next.ensures.steps in
    let within : s < 2 ^ game.players = rw c.players-players.ensures.count at turn.1 in
    let sum = c.sum_after-paid.ensures in
    let here = excess_is game x s c.worth.result c.sum_after-paid.result c.excess_from.result
    c.players-players.ensures.laws within c.worth.ensures sum.value sum.small c.excess_from.ensures.value in
    let kept = cast_kept w128 c.excess_from.result (omega (arith, c.excess_from.ensures.small)) in
    let paid =
    paid_next x (length c.loop-s.yielded) s _ turn.0
    (cast_kept w128 c.sum_after-paid.result (omega arith) ∙ sum.value) in
    let cut =
    split_at game c.args.free s _ true c.splits.result turn.0
    (rw c.players-players.ensures.count at c.splits.ensures) c.if-splits.true in
    rw (length_push c.loop-s.yielded s, c.raised-most.ensures) (
      (
          IsGreatestBelow-more game x c.args.free (length c.loop-s.yielded) c.loop-s.most _ c.loop-s.invariant.0 cut
          (excess_at game x s _ _ turn.0 (kept ∙ here))
          ),
      paid,
    )

pub loop-s-preserved : goal.loop-s-preserved
loop-s-preserved g c =
    let game = g.Self.Worth.game c.args.self.now in
    let s = c.in-Some.s in
    let turn =
    all_masks-turn c.players-players.result _ c.loop-s.yielded _ (cc) c.loop-s.yielded_by _ _ s c.in-Some.is
    c.next.ensures.steps in
    let whole =
    split_at game c.args.free s _ false c.splits.result turn.0
    (rw c.players-players.ensures.count at c.splits.ensures) c.if-splits.false in
    let sum = c.sum_after-paid.ensures in
    let paid =
    paid_next c.args.x.now (length c.loop-s.yielded) s _ turn.0
    (cast_kept w128 c.sum_after-paid.result (omega arith) ∙ sum.value) in
    let most =
    IsGreatestBelow-kept game c.args.x.now c.args.free (length c.loop-s.yielded) c.loop-s.most c.loop-s.invariant.0
    whole in
    rw (length_push c.loop-s.yielded s) (most, paid)

pub unwrap-requires : goal.unwrap-requires
unwrap-requires g c =
    let game = g.Self.Worth.game c.args.self.now in
    let end =
    all_masks-end c.players-players.result _ c.loop-s.yielded _ (cc) c.loop-s.yielded_by _ _ c.in-None.is
    c.next.ensures.steps in
    let all : length c.loop-s.yielded ≡ 2 ^ game.players = rw c.players-players.ensures.count at end in
    some-from_scan game c.args.x.now c.args.free c.loop-s.most (rw all at c.loop-s.invariant.0) c.requires.two

pub returns : goal.returns
returns g c =
    let game = g.Self.Worth.game c.args.self.now in
    let end =
    all_masks-end c.players-players.result _ c.loop-s.yielded _ (cc) c.loop-s.yielded_by _ _ c.in-None.is
    c.next.ensures.steps in
    let all : length c.loop-s.yielded ≡ 2 ^ game.players = rw c.players-players.ensures.count at end in
    let kept : to_z w128 (of_z w128 c.unwrap.result) ≡ c.unwrap.result = search rules in
    rw kept
    (IsSplitMaximum-from_scan game c.args.x.now c.args.free c.loop-s.most c.unwrap.result
    (rw all at c.loop-s.invariant.0) c.unwrap.ensures)

pub loop-s-init : goal.loop-s-init
loop-s-init g c =
    (IsGreatestBelow-none (g.Self.Worth.game c.args.self.now) c.args.x.now c.args.free, paid_first c.args.x.now)
