use Rattle.std.proofs.Common.{◌≡◌, refl, ◌<◌, ◌*◌, ◌/◌, ℕ, unsigned_abs, FitsSigned, subst, sym}
use Rattle.std.proofs.Common.{arith, rules}
use Rattle.std.proofs.lemmas.Int.{ints, to_z-of_z}
use mir.Syntax.{w128}
use Rattle.fractions.proofs.Divisors.{gcd_positive}
use Rattle.document_parts.proofs.CommonScales.{large_denominator, keeps_scale, lcm_positive}
use Rattle.document_parts.proofs.numbers.common_scale.Goals as goal

pub returns-then-den-gt-GREATEST-clause-value : goal.returns-then-den-gt-GREATEST-clause-value
returns-then-den-gt-GREATEST-clause-value c =
    let fd : FitsSigned w128 c.args.den = search rules in
    let size : c.unsigned_abs-den.result ≡ unsigned_abs c.args.den =
    simp to_z-of_z at c.unsigned_abs-den.ensures.value in
    large_denominator c.args.scale (unsigned_abs c.args.den) c.requires.some
    (subst (λ (n : ℕ). 65536 < n) size c.if-den-gt-GREATEST.true)

pub returns-then-scale-den-eq0-clause-value : goal.returns-then-scale-den-eq0-clause-value
returns-then-scale-den-eq0-clause-value c =
    let fd : FitsSigned w128 c.args.den = search rules in
    let size : c.unsigned_abs-den.result ≡ unsigned_abs c.args.den =
    simp to_z-of_z at c.unsigned_abs-den.ensures.value in
    let p = c.requires.positive in
    let some : 0 < unsigned_abs c.args.den = omega (arith, ints, p) in
    keeps_scale c.args.scale (unsigned_abs c.args.den) c.requires.some c.requires.few some
    (rw (← size) c.if-scale-den-eq0.true)

pub nonzero_div-multiple : goal.nonzero_div-multiple
nonzero_div-multiple c =
    let fd : FitsSigned w128 c.args.den = search rules in
    let size : c.unsigned_abs-den.result ≡ unsigned_abs c.args.den =
    simp to_z-of_z at c.unsigned_abs-den.ensures.value in
    let p = c.requires.positive in
    subst (λ (n : ℕ). 0 < n) (sym c.gcd.ensures.value)
    (gcd_positive c.from-scale.result c.unsigned_abs-den.result (rw size (omega (arith, ints, p))))

pub returns-clause-range : goal.returns-clause-range
returns-clause-range c =
    let fd : FitsSigned w128 c.args.den = search rules in
    let size : c.unsigned_abs-den.result ≡ unsigned_abs c.args.den =
    simp to_z-of_z at c.unsigned_abs-den.ensures.value in
    let p = c.requires.positive in
    let some = c.requires.some in
    let same : c.from-scale.result ≡ c.args.scale = c.from-scale.ensures in (
      lcm_positive c.from-scale.result c.unsigned_abs-den.result c.gcd.result
          (c.from-scale.result * (c.unsigned_abs-den.result / c.gcd.result)) (rw same some)
          (rw size (omega (arith, ints, p))) c.gcd.ensures.value refl,
      c.if-multiple-gt-GREATEST.false,
    )
