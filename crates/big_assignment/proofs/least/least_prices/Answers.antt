use Rattle.std.proofs.Common.{slice_index, replicate, arith, inl, inr}
use Rattle.big_assignment.proofs.Arrays.{zeros}
use Rattle.big_assignment.proofs.Leasts.{below_none}
use Rattle.big_assignment.proofs.Rounds.{unsettled_few, settles, below_least, content_at_last}
use Rattle.big_assignment.proofs.least.least_prices.Goals as goal

pub loop-round-init : goal.loop-round-init
loop-round-init c =
    let none = slice_index (replicate 33 0) in
    record {
      below = below_none c.args.deal.now c.args.n none (λ k le. zeros 33 k);
      left = λ q least. omega (arith, unsettled_few none q);
    }

pub loop-round-preserved : goal.loop-round-preserved
loop-round-preserved c =
    let d = c.args.deal.now in
    let p = slice_index c.loop-round.prices in
    let p' = slice_index c.after_round-raised.result in
    let inv = c.loop-round.invariant in
    let round = c.after_round-raised.ensures in
    record {
      below = round.below;
      left = λ q least.
          elim (settles d c.args.n p p' q least.0 least.1 round.more
          (below_least d c.args.n p' q round.below least.1) round.content c.requires.fair.within) [
            | inl none ↦ omega arith
            | inr fewer ↦ omega (arith, inv.left q least)
          ];
    }

pub returns-clause-content : goal.returns-clause-content
returns-clause-content c = λ i il.
    let inv = c.loop-round.invariant in
    content_at_last c.args.deal.now c.args.n (slice_index c.loop-round.prices) c.requires.fair inv.below
    (λ q least. omega (arith, inv.left q least)) i il
    (c.requires.fair.within i il)
