use Rattle.std.proofs.Common.{◌≡◌, arith, length, refl, ap, ◌∙◌}
use Rattle.definitions.specs.Games.{Allocation}
use Rattle.shapley.proofs.Steps.{pushed}
use Rattle.voting.proofs.Tables.{share_of, shapley-shares}
use Rattle.voting.proofs.shapley_value.voting_shapley.Goals as goal

pub loop-i-preserved : goal.loop-i-preserved
loop-i-preserved c =
    let g = c.args.game.now in
    let more =
    pushed (share_of g) c.loop-i.num.items c.push.new.self.items c.in_ok-numerator.field-0 c.loop-i.i
    c.in_ok-push.ensures.items c.loop-i.invariant.count c.loop-i.invariant.each
    c.in_ok-numerator.ensures.value c.in_ok-numerator.ensures.small in
    record { count = more.0; each = more.1 }

pub returns-clause-value : goal.returns-clause-value
returns-clause-value c =
    let g = c.args.game.now in
    let laws = c.len-i-end.ensures.laws in
    let end : c.loop-i.i ≡ length g.weights =
    omega arith in
    let made = rw c.unwrap.ensures at c.new.ensures in
    shapley-shares g c.loop-i.num.items _ c.unwrap.result laws (c.loop-i.invariant.count ∙ end)
    (λ k lt. (c.loop-i.invariant.each k (omega arith)).0) made.0 refl

pub returns-clause-den : goal.returns-clause-den
returns-clause-den c =
    let made = rw c.unwrap.ensures at c.new.ensures in
    ap (λ (x : Allocation). x.den) made.0
