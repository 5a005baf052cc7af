use Rattle.std.proofs.Common.{◌≡◌, ℤ, List, get_or, map, Option, None, to_z, of_z, ◌∙◌}
use Rattle.std.proofs.Common.{subst}
use Rattle.std.specs.Prelude.{unwrap_or}
use Rattle.std.proofs.lemmas.Int.{to_z-of_z}
use Rattle.std.proofs.lemmas.Result.{IfOk-from_err}
use mir.Syntax.{w64}
use Rattle.json_trees.proofs.Pushed.{map_pushed, map_all}
use Rattle.document_parts.proofs.table.numbers.Goals as goal

pub loop-slot-preserved : goal.loop-slot-preserved
loop-slot-preserved c =
    let f = λ (o : Option ℤ). unwrap_or o (to_z w64 (of_z w64 c.args.other)) in
    let kept = to_z-of_z w64 c.unwrap_or.result (record { sfits = c.unwrap_or.type_inv }) in
    let item : to_z w64 (of_z w64 c.unwrap_or.result) ≡ f (get_or c.args.slots.now c.loop-slot.slot-index None) =
    kept ∙ c.unwrap_or.ensures in
    ◌∙◌ {A = List ℤ} c.in_ok-push.ensures.items
    (map_pushed f c.args.slots.now c.loop-slot.slot-index None c.loop-slot.found.items _ c.loop-slot-test.true
    c.loop-slot.invariant item)

pub returns-in_err-push : goal.returns-in_err-push
returns-in_err-push c = IfOk-from_err c.from_residual-in_err-push.result _ c.from_residual-in_err-push.ensures.0

pub returns : goal.returns
returns c =
    let all =
    map_all (λ o. unwrap_or o (to_z w64 (of_z w64 c.args.other))) c.args.slots.now c.loop-slot.slot-index
    c.loop-slot.found.items c.loop-slot-test.false c.loop-slot.invariant in
    subst (λ (z : ℤ). c.loop-slot.found.items ≡ map (λ o. unwrap_or o z) c.args.slots.now)
    (to_z-of_z w64 c.args.other c.ranges.other) all
