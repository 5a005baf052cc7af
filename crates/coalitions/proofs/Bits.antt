-- One player put into a mask of 64 bits, or taken out.
use Rattle.std.proofs.Common.{◌≡◌, ℕ, ◌*◌, ◌^◌, ◌%◌, ◌<◌, nat_eq, not, ◌||◌, ◌&&◌}
use Rattle.std.proofs.Common.{bit_or, bit_and, arith, inl, inr, sym, subst}
use Rattle.std.proofs.lemmas.Bool.Decides.{nat_tests}
use Rattle.std.proofs.lemmas.Nat.Bits.{bit_at_set_same, bit_at_set_other}
use Rattle.std.proofs.lemmas.Nat.Bits.{bit_at_clear_same, bit_at_clear_other, bit_at_above}
use Rattle.std.specs.Int.{bit_not}
use Rattle.std.proofs.lemmas.Nat.{and_le_l}
use Rattle.std.proofs.Math.Nat.{lt_of_le_of_lt}
use lib.Bits.{or_lt}
use mir.Syntax.{w64}
use Rattle.definitions.specs.Coalitions.{has_player}
use Rattle.definitions.proofs.Cases.{same_or_other, below_or_above}

pub has_player_with : (s i j : ℕ) → i < 64
    → has_player (bit_or s (1 * 2 ^ i % 2 ^ 64)) j ≡ (nat_eq j i || has_player s j)
has_player_with s i j h = elim (same_or_other j i) [
  | inl same ↦
      let a = bit_at_set_same w64 s i h in
      subst (λ (k : ℕ). has_player (bit_or s (1 * 2 ^ i % 2 ^ 64)) k ≡ (nat_eq k i || has_player s k)) (sym same)
      (grind (arith, nat_tests, a))
  | inr other ↦ let a = bit_at_set_other w64 s i h j other in grind (arith, nat_tests, a)
]

pub has_player_without : (s i j : ℕ) → s < 2 ^ 64 → i < 64
    → has_player (bit_and s (bit_not w64 (1 * 2 ^ i % 2 ^ 64))) j ≡ (not (nat_eq j i) && has_player s j)
has_player_without s i j fits h = elim (same_or_other j i) [
  | inl same ↦
      let a = bit_at_clear_same w64 s i h in
      subst
      (λ (k : ℕ). has_player (bit_and s (bit_not w64 (1 * 2 ^ i % 2 ^ 64))) k
      ≡ (not (nat_eq k i) && has_player s k)) (sym same) (grind (arith, nat_tests, a))
  | inr other ↦ elim (below_or_above j 64) [
    | inl low ↦ let a = bit_at_clear_other w64 s i h j low other in grind (arith, nat_tests, a)
    | inr high ↦
        let a = bit_at_above s 64 j fits high in
        let b =
        bit_at_above (bit_and s (bit_not w64 (1 * 2 ^ i % 2 ^ 64))) 64 j
        (lt_of_le_of_lt (and_le_l s (bit_not w64 (1 * 2 ^ i % 2 ^ 64))) fits) high in
        grind (arith, nat_tests, a, b)
  ]
]

pub with_fits : (s i : ℕ) → s < 2 ^ 64 → i < 64 → bit_or s (1 * 2 ^ i % 2 ^ 64) < 2 ^ 64
with_fits s i fits h = or_lt 64 s (1 * 2 ^ i % 2 ^ 64) fits (omega arith)
