use Rattle.std.proofs.Common.{◌≡◌, ◌<◌, ◌≤◌, ◌^◌, ℕ, ℤ, ◌*ℤ◌, pos, unsigned_abs, to_z}
use Rattle.std.proofs.Common.{of_z, Some}
use Rattle.std.proofs.Common.{None, if◌then◌else◌, sym, ap, ap₂, ◌∙◌, subst, arith, rules}
use Rattle.std.specs.Prelude.{int_div}
use Rattle.std.proofs.lemmas.Bool.{lt-ltb, le-ltb}
use Rattle.std.proofs.lemmas.Int.{to_z-of_z, fits_signed_from_abs}
use mir.Syntax.{w64, w128}
use Rattle.worth_core.specs.LeastDenominators.{numerator_over}
use Rattle.document_parts.specs.ScaledNumbers.{if_small}
use Rattle.document_parts.proofs.numbers.times_scale.Goals as goal

none_if_large : (z : ℤ) → 2 ^ 40 ≤ unsigned_abs z → None ≡ if_small (Some z)
none_if_large z h = sym (ap (λ b. if b then Some z else None) (le-ltb (unsigned_abs z) (2 ^ 40) h))

some_if_small : (z : ℤ) → unsigned_abs z < 2 ^ 40 → Some z ≡ if_small (Some z)
some_if_small z h = sym (ap (λ b. if b then Some z else None) (lt-ltb (unsigned_abs z) (2 ^ 40) h))

pub overflow_cast-result : goal.overflow_cast-result
overflow_cast-result c = fits_signed_from_abs w64 _ (omega (arith, c.unsigned_abs.ensures.value))

pub returns-then-unsigned_abs : goal.returns-then-unsigned_abs
returns-then-unsigned_abs c =
    let f = c.args.number.now in
    let num : to_z w128 (of_z w128 c.num.result) ≡ f.num =
    to_z-of_z w128 c.num.result (record { sfits = c.num.type_inv }) ∙ c.num.ensures in
    let from : to_z w128 (of_z w128 c.from.result) ≡ pos c.args.scale =
    to_z-of_z w128 c.from.result (record { sfits = c.from.type_inv }) ∙ c.from.ensures in
    let den : to_z w128 (of_z w128 c.den.result) ≡ f.den =
    to_z-of_z w128 c.den.result (record { sfits = c.den.type_inv }) ∙ c.den.ensures.value in
    let whole : to_z w128
    (of_z w128 (int_div (to_z w128 (of_z w128 c.from.result)) (to_z w128 (of_z w128 c.den.result))))
    ≡ int_div (to_z w128 (of_z w128 c.from.result)) (to_z w128 (of_z w128 c.den.result)) = search rules in
    let value : c.in_ok-num.num ≡ numerator_over (pos c.args.scale) f =
    c.in_ok-num.ensures.1 ∙ ap₂ ◌*ℤ◌ num (whole ∙ ap₂ int_div from den) in
    let kept : to_z w128 (of_z w128 c.in_ok-num.num) ≡ c.in_ok-num.num = search rules in
    let is : to_z w128 (of_z w128 c.in_ok-num.num) ≡ numerator_over (pos c.args.scale) f = kept ∙ value in
    let size : c.unsigned_abs.result ≡ unsigned_abs (numerator_over (pos c.args.scale) f) =
    c.unsigned_abs.ensures.value ∙ ap unsigned_abs is in
    none_if_large (numerator_over (pos c.args.scale) f) (subst (λ (n : ℕ). 2 ^ 40 ≤ n) size c.if-unsigned_abs.true)

pub returns : goal.returns
returns c =
    let f = c.args.number.now in
    let num : to_z w128 (of_z w128 c.num.result) ≡ f.num =
    to_z-of_z w128 c.num.result (record { sfits = c.num.type_inv }) ∙ c.num.ensures in
    let from : to_z w128 (of_z w128 c.from.result) ≡ pos c.args.scale =
    to_z-of_z w128 c.from.result (record { sfits = c.from.type_inv }) ∙ c.from.ensures in
    let den : to_z w128 (of_z w128 c.den.result) ≡ f.den =
    to_z-of_z w128 c.den.result (record { sfits = c.den.type_inv }) ∙ c.den.ensures.value in
    let whole : to_z w128
    (of_z w128 (int_div (to_z w128 (of_z w128 c.from.result)) (to_z w128 (of_z w128 c.den.result))))
    ≡ int_div (to_z w128 (of_z w128 c.from.result)) (to_z w128 (of_z w128 c.den.result)) = search rules in
    let value : c.in_ok-num.num ≡ numerator_over (pos c.args.scale) f =
    c.in_ok-num.ensures.1 ∙ ap₂ ◌*ℤ◌ num (whole ∙ ap₂ int_div from den) in
    let kept : to_z w128 (of_z w128 c.in_ok-num.num) ≡ c.in_ok-num.num = search rules in
    let is : to_z w128 (of_z w128 c.in_ok-num.num) ≡ numerator_over (pos c.args.scale) f = kept ∙ value in
    let size : c.unsigned_abs.result ≡ unsigned_abs (numerator_over (pos c.args.scale) f) =
    c.unsigned_abs.ensures.value ∙ ap unsigned_abs is in
    let below : unsigned_abs (numerator_over (pos c.args.scale) f) < 2 ^ 40 =
    subst (λ (n : ℕ). n < 2 ^ 40) size c.if-unsigned_abs.false in
    let fits =
    fits_signed_from_abs w64 (to_z w128 (of_z w128 c.in_ok-num.num))
    (omega (arith, below, ap unsigned_abs is)) in
    ap Some (to_z-of_z w64 (to_z w128 (of_z w128 c.in_ok-num.num)) fits ∙ is)
    ∙ some_if_small (numerator_over (pos c.args.scale) f) below
