use Rattle.std.proofs.Common.{◌≡◌, ◌<◌, length, get_or, ap, ◌∙◌, arith}
use Rattle.definitions.specs.Certificates.{Level}
use Rattle.separation.proofs.Counts.{one_level_more, earlier_few}
use Rattle.separation.proofs.front.coalition_count.Goals as goal

pub overflow_add-count : goal.overflow_add-count
overflow_add-count c =
    let levels = c.args.levels.now in
    let k = c.loop-level.level-index in
    let l = c.level-item.result in
    let lt : k < length levels = omega (arith, c.loop-level-test.true) in
    let here : c.len.result ≡ length (get_or levels k l).coalitions =
    c.len.ensures ∙ c.level.inside.coalitions.ok.0
    ∙ ap (λ (v : Level). length v.coalitions) (c.level.view_is ∙ c.level-item.is) in
    let step = one_level_more levels k c.loop-level.count l lt c.loop-level.invariant in
    let few = earlier_few 0 levels c.requires.small in
    omega arith

pub loop-level-preserved : goal.loop-level-preserved
loop-level-preserved c =
    let levels = c.args.levels.now in
    let k = c.loop-level.level-index in
    let l = c.level-item.result in
    let here : c.len.result ≡ length (get_or levels k l).coalitions =
    c.len.ensures ∙ c.level.inside.coalitions.ok.0
    ∙ ap (λ (v : Level). length v.coalitions) (c.level.view_is ∙ c.level-item.is) in
    rw here
    (one_level_more levels k c.loop-level.count l (omega (arith, c.loop-level-test.true)) c.loop-level.invariant)

pub returns-clause-small : goal.returns-clause-small
returns-clause-small c =
    let few = earlier_few 0 c.args.levels.now c.requires.small in
    omega arith
