use Rattle.std.proofs.Common.{◌≡◌, ◌<◌, length, get_or, ap, ◌∙◌, arith}
use Rattle.definitions.specs.Certificates.{Level}
use Rattle.kohlberg.specs.Pairs.{placed_behind}
use Rattle.nested_programs.specs.Numbers.{level_pairs}
use Rattle.separation.proofs.Counts.{earlier_few}
use Rattle.nested_programs.proofs.LevelPasses.{earlier_put, earlier_next}
use Rattle.nested_programs.proofs.level.earlier_numbers.Goals as goal

pub put_level-requires-clause-small : goal.put_level-requires-clause-small
put_level-requires-clause-small c =
    let few = earlier_few 0 c.args.front.now c.requires.small in
    omega arith

pub overflow_add-id : goal.overflow_add-id
overflow_add-id c =
    let front = c.args.front.now in
    let k = c.loop-level.level-index in
    let l = c.level-item.result in
    let here : c.len.result ≡ length (get_or front k l).coalitions =
    c.len.ensures ∙ c.level.inside.coalitions.ok.0
    ∙ ap (λ (v : Level). length v.coalitions) (c.level.view_is ∙ c.level-item.is) in
    let next =
    earlier_next front k c.loop-level.id l (omega (arith, c.loop-level-test.true)) c.loop-level.invariant.1 in
    let few = earlier_few 0 front c.requires.small in
    omega arith

pub loop-level-preserved : goal.loop-level-preserved
loop-level-preserved c =
    let front = c.args.front.now in
    let ws = c.args.weights.now in
    let k = c.loop-level.level-index in
    let l = c.level-item.result in
    let lt : k < length front = omega (arith, c.loop-level-test.true) in
    let here : c.len.result ≡ length (get_or front k l).coalitions =
    c.len.ensures ∙ c.level.inside.coalitions.ok.0
    ∙ ap (λ (v : Level). length v.coalitions) (c.level.view_is ∙ c.level-item.is) in
    let pairs = c.deref.ensures.value ∙ ap (λ (v : Level). v.coalitions) (c.level.view_is ∙ c.level-item.is) in
    let put =
    c.in_ok-put_level.ensures.ok
    ∙ ap (λ us. placed_behind c.loop-level.earlier.items (level_pairs ws c.loop-level.id us)) pairs in
    rw here (
      earlier_put ws c.loop-level.earlier.items c.put_level.new.earlier.items c.loop-level.id front _ k l lt
          c.loop-level.invariant.0 put,
      earlier_next front k c.loop-level.id l lt c.loop-level.invariant.1,
    )
