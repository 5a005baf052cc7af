use Rattle.std.proofs.Common.{◌≡◌, ◌^◌, ◌≤◌, true, false, ℤ, pos, ◌+ℤ◌, ◌-ℤ◌, ◌*ℤ◌}
use Rattle.std.proofs.Common.{unsigned_abs, to_z, of_z, arith, ◌∙◌, refl, le_trans}
use Rattle.std.proofs.lemmas.Int.{ints}
use mir.Syntax.{w128}
use Rattle.definitions.specs.Coalitions.{sum_over}
use Rattle.definitions.specs.Measures.{divisor}
use Rattle.separation.specs.Stage.{signed}
use Rattle.separation.specs.Values.{multiplier_at, level_multiplier}
use lib.Dec.{lit≤}
use Rattle.separation.proofs.Products.{sum_held, minus_sum_held}
use Rattle.separation.proofs.Valued.{value_is}
use Rattle.separation.proofs.sums.value.Goals as goal
use Rattle.definitions.proofs.Casts.{cast_kept}

kept_plain : (a b x y : ℤ) → unsigned_abs a ≤ 2 ^ 114 → unsigned_abs b ≤ 2 ^ 116 → a ≡ x → b ≡ y
    → to_z w128 (of_z w128 (to_z w128 (of_z w128 a) +ℤ to_z w128 (of_z w128 b))) ≡ signed false (x +ℤ y)
kept_plain a b x y ha hb e f = rw (cast_kept w128 a (omega arith), cast_kept w128 b (omega arith))
    (cast_kept w128 (a +ℤ b) (omega (arith, ints)) ∙ rw (e, f) refl)

kept_minus : (a b x y : ℤ) → unsigned_abs a ≤ 2 ^ 114 → unsigned_abs b ≤ 2 ^ 116 → a ≡ x → b ≡ y
    → to_z w128 (of_z w128 (pos 0 -ℤ to_z w128 (of_z w128 (to_z w128 (of_z w128 a) +ℤ to_z w128 (of_z w128 b)))))
    ≡ signed true (x +ℤ y)
kept_minus a b x y ha hb e f =
    rw (kept_plain a b x y ha hb e f) (cast_kept w128 (pos 0 -ℤ (x +ℤ y)) (rw (← e, ← f) (omega (arith, ints))))

pub returns-then-column-clause-value : goal.returns-then-column-clause-value
returns-then-column-clause-value c =
    let m = c.args.m.now.num.items in
    let z : ℤ =
    sum_over c.args.n (multiplier_at m) c.args.column.coalition
    +ℤ pos (divisor c.args.measure c.args.column.coalition)
    *ℤ level_multiplier m c.args.n c.args.column.level in
    let one =
    kept_minus _ _ _ _ c.of.ensures.small c.level_value.ensures.small (c.of.ensures.value m c.args.n c.requires.sums)
    c.level_value.ensures.value in
    cc (c.if-column.true, value_is c.args.measure m c.args.n c.args.column c.requires.players c.requires.within)

pub returns-else-column-clause-value : goal.returns-else-column-clause-value
returns-else-column-clause-value c =
    let m = c.args.m.now.num.items in
    let z : ℤ =
    sum_over c.args.n (multiplier_at m) c.args.column.coalition
    +ℤ pos (divisor c.args.measure c.args.column.coalition)
    *ℤ level_multiplier m c.args.n c.args.column.level in
    let one =
    kept_plain _ _ _ _ c.of.ensures.small c.level_value.ensures.small (c.of.ensures.value m c.args.n c.requires.sums)
    c.level_value.ensures.value in
    cc (c.if-column.false, value_is c.args.measure m c.args.n c.args.column c.requires.players c.requires.within)

pub overflow_add-plain : goal.overflow_add-plain
overflow_add-plain c =
    (sum_held c.of.result c.level_value.result (2 ^ 114) (2 ^ 116) c.of.ensures.small c.level_value.ensures.small
    (lit≤ tt)).0

pub overflow_sub-result : goal.overflow_sub-result
overflow_sub-result c =
    (minus_sum_held c.of.result c.level_value.result (2 ^ 114) (2 ^ 116) c.of.ensures.small
    c.level_value.ensures.small (lit≤ tt)).0

pub returns-then-column-clause-small : goal.returns-then-column-clause-small
returns-then-column-clause-small c =
    le_trans (minus_sum_held c.of.result c.level_value.result (2 ^ 114) (2 ^ 116) c.of.ensures.small
    c.level_value.ensures.small (lit≤ tt)).1 (lit≤ tt)

pub returns-else-column-clause-small : goal.returns-else-column-clause-small
returns-else-column-clause-small c =
    le_trans
    (sum_held c.of.result c.level_value.result (2 ^ 114) (2 ^ 116) c.of.ensures.small c.level_value.ensures.small
    (lit≤ tt)).1.1 (lit≤ tt)
