-- Numbers that passed through 128 bits, and tests on them.
use Rattle.std.proofs.Common.{◌≡◌, ◌↔◌, ◌≤◌, ◌^◌, IsTrue, true, false, nat_eq, eqb-true, eq-eqb, ℤ, pos}
use Rattle.std.proofs.Common.{◌+ℤ◌, ◌-ℤ◌, ◌≤ℤ◌, unsigned_abs, FitsSigned, to_z, of_z, sym, ap, ◌∙◌, arith}
use Rattle.std.proofs.lemmas.Int.{ints, to_z-of_z}
use Rattle.definitions.proofs.Casts.{cast_kept}
use mir.Syntax.{w128}
use lib.Signed.{lt_z}

pub not_above : (s r a b : ℤ) → s ≡ r → r ≡ a -ℤ b → lt_z (pos 0) s ≡ false → a ≤ℤ b
not_above s r a b e f h = omega (arith, ints)

pub above : (s r a b : ℤ) → s ≡ r → r ≡ a -ℤ b → lt_z (pos 0) s ≡ true → ¬ (a ≤ℤ b)
above s r a b e f h = λ le. omega (arith, ints)

-- the sum of three small numbers, added in 128 bits, is another number exactly where their sum is
pub same_sum : (a b e t : ℤ) → unsigned_abs a ≤ 2 ^ 79 → unsigned_abs b ≤ 2 ^ 79 → unsigned_abs e ≤ 2 ^ 79
    → FitsSigned w128 t
    → IsTrue (nat_eq
    (of_z w128
    (to_z w128 (of_z w128 (to_z w128 (of_z w128 a) +ℤ to_z w128 (of_z w128 b))) +ℤ to_z w128 (of_z w128 e)))
    (of_z w128 t))
    ↔ (a +ℤ b +ℤ e ≡ t)
same_sum a b e t a_small b_small e_small fits =
    rw (
      cast_kept w128 a (omega (arith, a_small)),
      cast_kept w128 b (omega (arith, b_small)),
      cast_kept w128 (a +ℤ b) (omega (arith, ints)),
      cast_kept w128 e (omega (arith, e_small)),
    ) (
      λ q. sym (cast_kept w128 (a +ℤ b +ℤ e) (omega (arith, ints))) ∙ ap (to_z w128) (eqb-true _ _ q)
          ∙ to_z-of_z w128 t fits,
      λ h. eq-eqb _ _ (ap (of_z w128) h),
    )
