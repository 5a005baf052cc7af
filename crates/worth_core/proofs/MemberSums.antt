-- The sum of the members' numbers, player by player, if each number is below 2 ^ 110 in size.
use Rattle.std.proofs.Common.{◌≡◌, ℕ, suc, ◌+◌, ◌*◌, ◌^◌, ◌<◌, ◌≤◌, Bool, true}
use Rattle.std.proofs.Common.{false, if◌then◌else◌, ℤ, pos}
use Rattle.std.proofs.Common.{◌+ℤ◌, unsigned_abs, to_z, of_z, FitsSigned, sym, ap, subst, ◌∙◌, arith}
use Rattle.std.proofs.lemmas.Int.{ints, fits_signed_from_abs}
use mir.Syntax.{w128}
use Rattle.definitions.specs.Coalitions.{has_player, sum_over}
use Rattle.definitions.proofs.Casts.{cast_kept}

module _ (a : ℕ → ℤ) (s i : ℕ) (sum : ℤ) (so : (sum ≡ sum_over i a s) × (unsigned_abs sum ≤ i * 2 ^ 110)) where
  sum_over-next : (b : Bool) → has_player s i ≡ b → sum_over (i + 1) a s ≡ sum_over i a s +ℤ (if b then a i else pos 0)
  sum_over-next b e =
      let one : i + 1 ≡ suc i = omega arith in
      ap (λ n. sum_over n a s) one ∙ ap (λ t. sum_over i a s +ℤ (if t then a i else pos 0)) e

  -- player i is no member
  pub left_out : has_player s i ≡ false → (x : ℤ) → x ≡ sum
      → (x ≡ sum_over (i + 1) a s) × (unsigned_abs x ≤ (i + 1) * 2 ^ 110)
  left_out none x same =
      let more = sum_over-next false none in
      (omega (arith, ints, same, so.0, more), omega (arith, ints, same, so.1))

  module _ (v : ℤ) (few : i < 64) (small : unsigned_abs v < 2 ^ 110) where
    kept : to_z w128 (of_z w128 v) ≡ v
    kept = cast_kept w128 v (omega (arith, small))

    bound : unsigned_abs (sum +ℤ v) < 2 ^ 127
    bound = omega (arith, ints, so.1, small, few)

    pub fits : FitsSigned w128 (sum +ℤ to_z w128 (of_z w128 v))
    fits = subst (λ z. FitsSigned w128 (sum +ℤ z)) (sym kept) (fits_signed_from_abs w128 (sum +ℤ v) bound)

    -- it is one, of the number v
    pub added : has_player s i ≡ true → v ≡ a i → (x : ℤ)
        → x ≡ to_z w128 (of_z w128 (sum +ℤ to_z w128 (of_z w128 v)))
        → (x ≡ sum_over (i + 1) a s) × (unsigned_abs x ≤ (i + 1) * 2 ^ 110)
    added member given x made =
        let more = sum_over-next true member in
        let total : x ≡ sum +ℤ v =
        made ∙ ap (λ z. to_z w128 (of_z w128 (sum +ℤ z))) kept ∙ cast_kept w128 (sum +ℤ v) bound in
        (omega (arith, ints, total, so.0, more, given), omega (arith, ints, total, so.1, small))
