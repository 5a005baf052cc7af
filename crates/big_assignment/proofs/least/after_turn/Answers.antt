use Rattle.std.proofs.Common.{◌≡◌, ℕ, ◌+◌, ◌-◌, ◌≤◌, slice_index, slice_set, arith, ap, subst, sym, ◌∙◌}
use Rattle.std.proofs.lemmas.List.{length-set}
use Rattle.big_assignment.specs.Deals.{mate_of, offer_of}
use Rattle.big_assignment.proofs.Arrays.{put_set}
use Rattle.big_assignment.proofs.Leasts.{below_small}
use Rattle.big_assignment.proofs.Rounds.{turn_raised, turn_passed}
use Rattle.big_assignment.proofs.least.after_turn.Goals as goal
use Rattle.big_assignment.proofs.least.after_turn.Goals.{then-gain-prices, else-gain-prices}

pub overflow_add-other : goal.overflow_add-other
overflow_add-other c =
    let d = c.args.deal.now in
    let within =
    subst (λ (k : ℕ). k ≤ 32) (sym c.mate-own.ensures) (c.requires.fair.within c.args.i c.requires.row) in
    let own =
    below_small d c.args.n (slice_index c.args.prices.now) c.requires.offers c.requires.rows c.requires.fair
    c.requires.below c.mate-own.result within in
    let few = c.requires.offers.small c.args.i c.loop-k.k (omega arith) (omega arith) in
    omega (arith, own, few, c.offer.ensures)

pub overflow_add-gain : goal.overflow_add-gain
overflow_add-gain c =
    let d = c.args.deal.now in
    let within =
    subst (λ (k : ℕ). k ≤ 32) (sym c.mate-own.ensures) (c.requires.fair.within c.args.i c.requires.row) in
    let price =
    below_small d c.args.n (slice_index c.args.prices.now) c.requires.offers c.requires.rows c.requires.fair
    c.requires.below c.loop-k.k (omega arith) in
    let few = c.requires.offers.small c.args.i c.mate-own.result (omega arith) within in
    omega (arith, price, few, c.offer-gain.ensures)

pub loop-k-preserved : goal.loop-k-preserved
loop-k-preserved c =
    let d = c.args.deal.now in
    let i = c.args.i in
    let k = c.loop-k.k in
    let p = slice_index c.args.prices.now in
    let inv = c.loop-k.invariant in
    let size = inv.size in
    let kl : k ≤ 32 = omega arith in
    let gain : c.offer-gain.result ≡ offer_of d i (mate_of d i) =
    c.offer-gain.ensures ∙ ap (offer_of d i) c.mate-own.ensures in
    let own : p c.mate-own.result ≡ p (mate_of d i) = ap p c.mate-own.ensures in
    elim c.if-gain-prices.branch [
      | then-gain-prices w ↦
          let x = c.offer.result + p c.mate-own.result - c.offer-gain.result in
          rw w.raised-is (record {
            size = length-set c.loop-k.raised k x ∙ size;
            turn =
                turn_raised d c.args.n i k p (slice_index c.loop-k.raised) kl inv.turn x
                (slice_index (slice_set c.loop-k.raised k x)) c.requires.fair c.requires.below c.requires.row
                (omega arith) (omega arith)
                (put_set c.loop-k.raised k x (omega arith));
          })
      | else-gain-prices w ↦
          rw w.raised-is (record {
            size = size;
            turn =
                turn_passed d c.args.n i k p (slice_index c.loop-k.raised) kl inv.turn
                (omega arith);
          })
    ]
