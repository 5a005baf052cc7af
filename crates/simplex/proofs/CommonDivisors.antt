-- The common divisor of the denominator and the weights.
use Rattle.std.proofs.Common.{length, set, get_or-set_same, get_or-set_other, ◌≡◌, ◌≢◌, inl, inr, ℕ, suc}
use Rattle.std.proofs.Common.{◌+◌, ◌*◌, ◌/◌, ◌^◌, ◌<◌, ◌≤◌, List, slice_index_or, arith, sym}
use Rattle.std.proofs.Common.{ap, subst, ◌∙◌, ℤ, pos, negsuc, ◌*ℤ◌, neg_ℤ, ◌<ℤ◌, unsigned_abs}
use Rattle.std.proofs.Common.{int_div, le_trans}
use Prim.Native.Nat.{◌∣◌}
use Rattle.std.specs.Int.{IsGcd}
use Rattle.std.proofs.lemmas.Int.{ints}
use Rattle.std.proofs.lemmas.Nat.Gcd.{dvd_refl, dvd_trans}
use native.Mathlib.Nat.{pos_of_dvd_of_pos, le_of_dvd, mul-div_cancel'}
use Rattle.definitions.proofs.Ring.{mul-negℤ}
use Rattle.definitions.proofs.Cancel.{quot_exact}
use Rattle.determinants.specs.Matrix.{entry_at, weight_at}
use Rattle.simplex.specs.Reduced.{IsCommon, IsMultiple}
use Rattle.simplex.proofs.Signs.{positive_apart, size_of_positive}
use Rattle.definitions.proofs.Cases.{last_or_less_of}

pub record CommonSoFar (d : ℕ) (ts : List ℤ) (k c : ℕ) : Type 0 where
  pub positive : 0 < c
  pub small : c ≤ 2 ^ 58
  pub den : c ∣ d
  pub weights : (j : ℕ) → j < k → c ∣ unsigned_abs (entry_at 32 ts j 0)
  pub greatest : (g : ℕ) → g ∣ d → ((j : ℕ) → j < k → g ∣ unsigned_abs (entry_at 32 ts j 0)) → g ∣ c

pub common_start : (d : ℕ) (ts : List ℤ) (c : ℕ) → c ≡ d → 0 < d → d ≤ 2 ^ 58 → CommonSoFar d ts 0 c
common_start d ts c e p s = rw e (record {
  positive = p;
  small = s;
  den = dvd_refl d;
  weights = λ j lt. absurd (omega arith);
  greatest = λ g h k. h;
})

pub common_next : (d : ℕ) (ts : List ℤ) (k c z g : ℕ) → z ≡ unsigned_abs (slice_index_or ts (32 * k) (pos 0))
    → IsGcd c z g → CommonSoFar d ts k c → CommonSoFar d ts (k + 1) g
common_next d ts k c z g e h s =
    let here : z ≡ unsigned_abs (entry_at 32 ts k 0) =
    e ∙ ap (λ (t : ℕ). unsigned_abs (slice_index_or ts t (pos 0))) (omega arith) in
    record {
      positive = pos_of_dvd_of_pos h.0 s.positive;
      small = le_trans (le_of_dvd s.positive h.0) s.small;
      den = dvd_trans g h.0 s.den;
      weights = λ j lt. elim (last_or_less_of j k lt) [
        | inl same ↦ rw same
            (rw here at h.1)
        | inr less ↦ dvd_trans g h.0 (s.weights j less)
      ];
      greatest = λ t a b. h.2 t (s.greatest t a (λ j lt. b j (omega arith)))
          (rw here (b k (omega arith)));
    }

positive_pos : (c : ℕ) → 0 < c → pos 0 <ℤ pos c
positive_pos c h = omega (arith, ints)

pub common_end : (d : ℤ) (ts : List ℤ) (n k c : ℕ) (z : ℤ) → z ≡ pos c → k ≤ n → n ≤ k
    → CommonSoFar (unsigned_abs d) ts k c → IsCommon ts n d z
common_end d ts n k c z e le ge s = rw e (record {
  positive = positive_pos c s.positive;
  den = s.den;
  weights = λ j lt. s.weights j (omega arith);
  greatest = λ g a b. s.greatest g a (λ j lt. b j (omega arith));
})

-- ---- division by a common divisor
product_of : (k : ℕ) (z : ℤ) → k ∣ unsigned_abs z → (q : ℤ) × (z ≡ pos k *ℤ q)
product_of k (pos m) h = (pos (m / k), ap pos (sym (mul-div_cancel' k h)))
product_of k (negsuc m) h = (
  neg_ℤ (pos (suc m / k)),
  ap neg_ℤ (ap pos (sym (mul-div_cancel' k h))) ∙ sym (mul-negℤ (pos k) (pos (suc m / k))),
)

pub quotient_is : (c z : ℤ) → pos 0 <ℤ c → unsigned_abs c ∣ unsigned_abs z → c *ℤ int_div z c ≡ z
quotient_is c z p h =
    let q = product_of (unsigned_abs c) z h in
    let e : z ≡ c *ℤ q.0 = q.1 ∙ ap (λ (t : ℤ). t *ℤ q.0) (sym (size_of_positive c p)) in
    cc (quot_exact z c q.0 e (positive_apart c p))

-- ---- the reduced weights, one by one
pub is_multiple : (ts : List ℤ) (n : ℕ) (d c : ℤ) (k : ℕ) → IsCommon ts n d c → k < n
    → IsMultiple c (slice_index_or ts (32 * k) (pos 0))
is_multiple ts n d c k h lt = record {
  divides =
      subst (λ (t : ℕ). unsigned_abs c ∣ unsigned_abs (slice_index_or ts t (pos 0))) (omega arith) (h.weights k lt);
}

pub next_reduced : (ts reduced : List ℤ) (c : ℤ) (k : ℕ) (v : ℤ) → k < length reduced
    → c *ℤ v ≡ slice_index_or ts (32 * k) (pos 0) → ((j : ℕ) → j < k → c *ℤ weight_at reduced j ≡ entry_at 32 ts j 0)
    → (j : ℕ) → j < k + 1 → c *ℤ weight_at (set reduced k v) j ≡ entry_at 32 ts j 0
next_reduced ts reduced c k v len e done j lt = elim (last_or_less_of j k lt) [
  | inl same ↦ ap (λ (t : ℕ). c *ℤ weight_at (set reduced k v) t) same
      ∙ ap (λ (z : ℤ). c *ℤ z) (get_or-set_same reduced k v (pos 0) len) ∙ e
      ∙ ap (λ (t : ℕ). slice_index_or ts t (pos 0)) (omega arith) ∙ ap (λ (t : ℕ). entry_at 32 ts t 0) (sym same)
  | inr less ↦
      let ne : j ≢ k = omega arith in
      ap (λ (z : ℤ). c *ℤ z) (get_or-set_other reduced k j v (pos 0) ne) ∙ done j less
]
