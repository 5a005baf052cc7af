use Rattle.std.proofs.Common.{◌≡◌, ◌<◌, ◌*ℤ◌, pos, length, get_or, Some, to_z, of_z, w64, rules, ap, ◌∙◌}
use Rattle.document_parts.specs.ScaledNumbers.{if_small}
use Rattle.document_parts.proofs.InPlace.{times_one, one_in_place}
use Rattle.document_parts.proofs.numbers.raise.Goals as goal

pub returns-then-factor-eq1-clause-numbers : goal.returns-then-factor-eq1-clause-numbers
returns-then-factor-eq1-clause-numbers c =
    rw c.if-factor-eq1.true (λ _. times_one c.args.numbers.now.items)

pub loop-i-preserved : goal.loop-i-preserved
loop-i-preserved c =
    let x = c.index.result.now in
    let at : x ≡ get_or c.loop-i.numbers.items c.loop-i.i x = search rules in
    let said : Some c.in-Some.product ≡ if_small (Some (x *ℤ pos c.args.factor)) = search rules in
    let kept : to_z w64 (of_z w64 c.in-Some.product) ≡ c.in-Some.product = search rules in
    let below : c.loop-i.i < length c.args.numbers.now.items = search rules in
    let more =
    one_in_place c.args.factor c.args.numbers.now.items c.loop-i.numbers.items c.loop-i.i x
    (to_z w64 (of_z w64 c.in-Some.product)) below c.loop-i.invariant.items at c.loop-i.invariant.small
    (ap Some kept ∙ said) in
    record { items = more.0; small = more.1 }
