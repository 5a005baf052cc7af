use Rattle.std.proofs.Common.{◌≡◌, ◌<◌, ◌^◌, ◌≤◌, ℕ, ℤ, pos, ◌*ℤ◌, ◌≤ℤ◌, int_div}
use Rattle.std.proofs.Common.{unsigned_abs}
use Rattle.std.proofs.Common.{to_z, of_z, FitsSigned, ap, ◌∙◌, subst, arith, rules}
use Rattle.std.proofs.lemmas.Int.{ints, fits_signed_from_abs, to_z-of_z, quot_fits}
use mir.Syntax.{w128}
use Rattle.worth_core.specs.LeastDenominators.{numerator_over}
use Rattle.worth_core.proofs.shares.fracs.numerator_over.Goals as goal

positive_bits : (d : ℤ) → FitsSigned w128 d → pos 1 ≤ℤ d → 0 < of_z w128 d
positive_bits d f h = omega (arith, ints)

quotient_fits : (den d : ℤ) → FitsSigned w128 den → pos 1 ≤ℤ d → FitsSigned w128 (int_div den d)
quotient_fits den d h p = quot_fits w128 den d h (omega (arith, ints))

-- the product that the code computes is of the numbers themselves
kept : (num den d m e : ℤ) → FitsSigned w128 num → FitsSigned w128 den → FitsSigned w128 d → pos 1 ≤ℤ d → num ≡ m
    → d ≡ e →
    to_z w128 (of_z w128 num)
    *ℤ to_z w128 (of_z w128 (int_div (to_z w128 (of_z w128 den)) (to_z w128 (of_z w128 d))))
    ≡ m *ℤ int_div den e
kept num den d m e fn fden fd p same_num same_den =
    let q = quotient_fits den d fden p in
    rw (
      to_z-of_z w128 num fn,
      to_z-of_z w128 den fden,
      to_z-of_z w128 d fd,
      to_z-of_z w128 (int_div den d) q,
      same_num,
      same_den,
    )

not_small : (z : ℤ) (n : ℕ) → n ≡ unsigned_abs z → 2 ^ 110 ≤ n → unsigned_abs z < 2 ^ 110 → ⊥
not_small z n same low high = omega arith

pub nonzero_div-den : goal.nonzero_div-den
nonzero_div-den c =
    let fits : FitsSigned w128 c.den.result = search rules in
    let p = c.den.ensures.positive in (
      positive_bits c.den.result fits p,
      rw (to_z-of_z w128 c.args.den c.ranges.den, to_z-of_z w128 c.den.result fits)
          (quotient_fits c.args.den c.den.result c.ranges.den p),
    )

pub returns-in_err-num : goal.returns-in_err-num
returns-in_err-num c =
    let fn : FitsSigned w128 c.num.result = search rules in
    let fd : FitsSigned w128 c.den.result = search rules in
    let same =
    kept c.num.result c.args.den c.den.result c.args.f.now.num c.args.f.now.den fn c.ranges.den fd
    c.den.ensures.positive c.num.ensures c.den.ensures.value in
    let none = rw same at (c.in_err-num.ensures {u = tt}) in
    rw c.from_residual.ensures
    (λ small. none (fits_signed_from_abs w128 (numerator_over c.args.den c.args.f.now) (omega (arith, small))))

pub returns-then-unsigned_abs-ge-NUMERATOR_LIMIT : goal.returns-then-unsigned_abs-ge-NUMERATOR_LIMIT
returns-then-unsigned_abs-ge-NUMERATOR_LIMIT c =
    let fn : FitsSigned w128 c.num.result = search rules in
    let fd : FitsSigned w128 c.den.result = search rules in
    let fm : FitsSigned w128 c.in_ok-num.num = search rules in
    let same =
    kept c.num.result c.args.den c.den.result c.args.f.now.num c.args.f.now.den fn c.ranges.den fd
    c.den.ensures.positive c.num.ensures c.den.ensures.value in
    let made = (c.in_ok-num.ensures {u = tt}).1 ∙ same in
    let size = c.unsigned_abs.ensures.value ∙ ap unsigned_abs (to_z-of_z w128 c.in_ok-num.num fm ∙ made) in
    not_small (numerator_over c.args.den c.args.f.now) c.unsigned_abs.result size
    c.if-unsigned_abs-ge-NUMERATOR_LIMIT.true

pub returns : goal.returns
returns c =
    let fn : FitsSigned w128 c.num.result = search rules in
    let fd : FitsSigned w128 c.den.result = search rules in
    let fm : FitsSigned w128 c.in_ok-num.num = search rules in
    let same =
    kept c.num.result c.args.den c.den.result c.args.f.now.num c.args.f.now.den fn c.ranges.den fd
    c.den.ensures.positive c.num.ensures c.den.ensures.value in
    let made = to_z-of_z w128 c.in_ok-num.num fm ∙ (c.in_ok-num.ensures {u = tt}).1 ∙ same in
    let size = c.unsigned_abs.ensures.value ∙ ap unsigned_abs made in
    (subst (λ n. n < 2 ^ 110) size c.if-unsigned_abs-ge-NUMERATOR_LIMIT.false, made)
