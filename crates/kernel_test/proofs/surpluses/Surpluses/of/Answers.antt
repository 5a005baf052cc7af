use Rattle.std.proofs.Common.{◌≡◌, ◌∙◌, ◌<◌, ◌^◌, length, arith}
use Rattle.std.proofs.lemmas.List.{length_push}
use Rattle.coalitions.proofs.Masks.{all_masks-turn, all_masks-end}
use Rattle.definitions.proofs.Casts.{cast_kept}
use Rattle.worth_core.proofs.Scan.{excess_is, paid_first, paid_here, paid_next}
use Rattle.definitions.specs.Games.{excess}
use Rattle.definitions.specs.Prekernel.{holds_without}
use Rattle.kernel_test.specs.Tables.{number_at}
use Rattle.kernel_test.proofs.Pairs.{found_in}
use Rattle.kernel_test.proofs.Greatest.{IsGreatestBelow-start, IsGreatestBelow-next, found_from_scan}
use mir.Syntax.{w64, w128}
use Rattle.kernel_test.proofs.surpluses.Surpluses.of.Goals as goal

pub loop-s-init : goal.loop-s-init
loop-s-init g c = record {
  greatest = λ i j hi hj.
      let game = g.W.Worth.game c.args.game.now in
      rw (c.none-surpluses.ensures.empty i j hi hj)
      (IsGreatestBelow-start (holds_without i j) (excess game c.args.x.now));
  floors = c.none-surpluses.ensures.floors;
  paid = paid_first c.args.x.now;
}

pub worth-requires : goal.worth-requires
worth-requires g c =
    let turn =
    all_masks-turn c.players.result _ c.loop-s.yielded _ (cc) c.loop-s.yielded_by _ _ c.in-Some.s c.in-Some.is
    c.next.ensures.steps in
    rw c.players.ensures.count at turn.1

pub sum_after-paid-requires-clause-within : goal.sum_after-paid-requires-clause-within
sum_after-paid-requires-clause-within g c =
    let turn =
    all_masks-turn c.players.result _ c.loop-s.yielded _ (cc) c.loop-s.yielded_by _ _ c.in-Some.s c.in-Some.is
    c.next.ensures.steps in
    rw c.requires.shares (rw c.players.ensures.count at turn.1)

pub sum_after-paid-requires-clause-before : goal.sum_after-paid-requires-clause-before
sum_after-paid-requires-clause-before g c =
    let turn =
    all_masks-turn c.players.result _ c.loop-s.yielded _ (cc) c.loop-s.yielded_by _ _ c.in-Some.s c.in-Some.is
    c.next.ensures.steps in
    paid_here c.args.x.now (length c.loop-s.yielded) c.in-Some.s _ turn.0 c.loop-s.invariant.paid

pub excess_from-requires-clause-worth : goal.excess_from-requires-clause-worth
excess_from-requires-clause-worth g c =
    let turn =
    all_masks-turn c.players.result _ c.loop-s.yielded _ (cc) c.loop-s.yielded_by _ _ c.in-Some.s c.in-Some.is
    c.next.ensures.steps in
    let small = c.players.ensures.laws.small c.in-Some.s (rw c.players.ensures.count at turn.1) in
    let kept = cast_kept w64 c.worth.result (rw c.worth.ensures (omega arith)) in
    rw (kept, c.worth.ensures) small

pub loop-s-preserved : goal.loop-s-preserved
loop-s-preserved g c =
    let game = g.W.Worth.game c.args.game.now in
    let x = c.args.x.now in
    let s = c.in-Some.s in
    let turn =
    all_masks-turn c.players.result _ c.loop-s.yielded _ (cc) c.loop-s.yielded_by _ _ s c.in-Some.is
    c.next.ensures.steps in
    let within : s < 2 ^ game.players = rw c.players.ensures.count at turn.1 in
    let sum = c.sum_after-paid.ensures in
    let here = excess_is game x s c.worth.result c.sum_after-paid.result c.excess_from.result
    c.players.ensures.laws within c.worth.ensures sum.value sum.small c.excess_from.ensures.value in
    let kept = cast_kept w128 c.excess_from.result (omega (arith, c.excess_from.ensures.small)) in
    let paid =
    paid_next x (length c.loop-s.yielded) s _ turn.0
    (cast_kept w128 c.sum_after-paid.result (omega arith) ∙ sum.value) in
    record {
      greatest = rw (length_push c.loop-s.yielded s) (λ i j hi hj.
          IsGreatestBelow-next (holds_without i j) (excess game x) (length c.loop-s.yielded) s
          (number_at c.loop-s.surpluses.greatest i j) (number_at c.raise.new.self.greatest i j) _
          (c.loop-s.invariant.greatest i j hi hj) turn.0 (kept ∙ here) (c.raise.ensures.raised i j hi hj)
          );
      floors = c.raise.ensures.floors;
      paid = rw (length_push c.loop-s.yielded s) paid;
    }

pub returns-clause-surpluses : goal.returns-clause-surpluses
returns-clause-surpluses g c =
    let game = g.W.Worth.game c.args.game.now in
    let end =
    all_masks-end c.players.result _ c.loop-s.yielded _ (cc) c.loop-s.yielded_by _ _ c.in-None.is
    c.next.ensures.steps in
    let all : length c.loop-s.yielded ≡ 2 ^ game.players = rw c.players.ensures.count at end in
    let few = c.requires.few in
    λ i j hi hj ne. found_from_scan game c.args.x.now i j (number_at c.loop-s.surpluses.greatest i j)
    (rw all at (c.loop-s.invariant.greatest i j (omega arith) (omega arith))) hi ne

pub returns-clause-there : goal.returns-clause-there
returns-clause-there g c =
    found_in (g.W.Worth.game c.args.game.now) c.args.x.now c.loop-s.surpluses.greatest
    (returns-clause-surpluses g c)
