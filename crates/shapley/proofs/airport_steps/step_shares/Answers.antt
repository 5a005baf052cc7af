use Rattle.std.proofs.Common.{arith, sym, ◌∙◌, ap, pos, ◌*ℤ◌, neg_ℤ, length, slice_index, rules}
use Rattle.definitions.specs.Shapley.{factorial, shapley_total}
use Rattle.definitions.specs.Games.{Allocation, share}
use Rattle.airport.specs.Airport.{airport_game}
use Rattle.shapley.specs.Layers.{common, units_below}
use Rattle.shapley.proofs.Steps.{pushed, common_shares}
use Rattle.shapley.proofs.airport_steps.step_shares.Goals as goal

pub loop-i-preserved : goal.loop-i-preserved
loop-i-preserved c =
    let costs = c.args.game.now.costs in
    pushed (λ k. neg_ℤ (units_below costs common (slice_index costs k))) c.loop-i.num.items c.push.new.self.items
    c.owed.result c.loop-i.i c.in_ok-push.ensures.items c.loop-i.invariant.0 c.loop-i.invariant.1
    c.owed.ensures.value c.owed.ensures.small

pub returns-clause-value : goal.returns-clause-value
returns-clause-value c =
    let costs = c.args.game.now.costs in
    let made = rw c.unwrap.ensures at c.new.ensures in
    let same = ap (λ (x : Allocation). length x.shares) made.0 in
    let den = ap (λ (x : Allocation). x.den) made.0 in (
      (omega arith, rw den (search rules)),
      λ i lt.
          let value = (c.loop-i.invariant.1 i (omega arith)).0 in
          let at = ap (λ (x : Allocation). share x i) made.0 ∙ value in
          ap (λ z. z *ℤ pos (factorial (length costs))) at
          ∙ common_shares costs i (omega arith) lt
          ∙ ap (λ z. z *ℤ shapley_total (airport_game c.args.game.now) i) (sym den),
    )

pub returns-clause-den : goal.returns-clause-den
returns-clause-den c =
    let made = rw c.unwrap.ensures at c.new.ensures in
    ap (λ (x : Allocation). x.den) made.0
