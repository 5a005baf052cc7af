-- A factor that isn't 0 cancels, and so does a division that leaves no rest.
use Rattle.std.proofs.Common.{◌≡◌, ◌≢◌, ℕ, zero, suc, ◌*◌, ◌<◌, arith, refl, sym}
use Rattle.std.proofs.Common.{ap, subst, ◌∙◌, ℤ}
use Rattle.std.proofs.Common.{pos, ◌+ℤ◌, ◌-ℤ◌, ◌*ℤ◌, unsigned_abs, int_div, int_rem}
use Rattle.std.proofs.lemmas.Int.{ints, unsigned_abs-mul, quot-rem, rem_below}
use Rattle.definitions.proofs.Ring.{ring_laws, linear}

abs_zero : (a : ℤ) → unsigned_abs a ≡ 0 → a ≡ pos 0
abs_zero a e = omega (arith, ints)

pub size_positive : (d : ℤ) → d ≢ pos 0 → 0 < unsigned_abs d
size_positive d h = omega (arith, ints)

no_zero : (m n : ℕ) → m * n ≡ 0 → m ≢ 0 → n ≡ 0
no_zero zero n e h = absurd (h refl)
no_zero (suc m) n e h = omega arith

pub product_zero : (d z : ℤ) → d ≢ pos 0 → d *ℤ z ≡ pos 0 → z ≡ pos 0
product_zero d z h e =
    abs_zero z
    (no_zero (unsigned_abs d) (unsigned_abs z) (sym (unsigned_abs-mul d z) ∙ ap unsigned_abs e)
    (λ k. h (abs_zero d k)))

gap_zero : (x y : ℤ) → x -ℤ y ≡ pos 0 → x ≡ y
gap_zero x y e = omega (arith, linear)

pub gap_of : (x y : ℤ) → x ≡ y → x -ℤ y ≡ pos 0
gap_of x y e = omega (arith, linear)

pub cancel : (d x y : ℤ) → d ≢ pos 0 → d *ℤ x ≡ d *ℤ y → x ≡ y
cancel d x y h e = gap_zero x y (product_zero d (x -ℤ y) h (simp ring_laws (gap_of (d *ℤ x) (d *ℤ y) e)))

none_below : (m n : ℕ) → m * n < m → n ≡ 0
none_below m zero h = refl
none_below m (suc n) h = absurd (omega arith)

-- the quotient of a product
pub quot_exact : (z d q : ℤ) → z ≡ d *ℤ q → d ≢ pos 0 → int_div z d ≡ q
quot_exact z d q e h =
    let t = int_div z d in
    let r = int_rem z d in
    let same : r ≡ d *ℤ (q -ℤ t) = rest t r (quot-rem z d) in
    let size : unsigned_abs r ≡ unsigned_abs d * unsigned_abs (q -ℤ t) =
    ap unsigned_abs same ∙ unsigned_abs-mul d (q -ℤ t) in
    sym
    (gap q t
    (none_below (unsigned_abs d) (unsigned_abs (q -ℤ t))
    (subst (λ (n : ℕ). n < unsigned_abs d) size (rem_below z d (size_positive d h)))))
  where
    rest : (t r : ℤ) → t *ℤ d +ℤ r ≡ z → r ≡ d *ℤ (q -ℤ t)
    rest t r k = subtracted (t *ℤ d) r z k ∙ ap (λ (u : ℤ). u -ℤ t *ℤ d) e ∙ simp ring_laws
      where
        subtracted : (a r z : ℤ) → a +ℤ r ≡ z → r ≡ z -ℤ a
        subtracted a r z k = omega (arith, linear)

    gap : (q t : ℤ) → unsigned_abs (q -ℤ t) ≡ 0 → q ≡ t
    gap q t k = omega (arith, ints)
