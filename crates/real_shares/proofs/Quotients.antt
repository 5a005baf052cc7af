-- Each fraction is a real number: n times it, rounded, is additive up to an error of 1. So shares in fractions
-- can be written as real numbers.
use Rattle.std.proofs.Common.{◌≡◌, ℕ, zero, suc, ◌+◌, ◌*◌, ◌/◌, ◌<◌, ◌≤◌, List, [], ◌∷◌, length, ℤ, pos, negsuc, ◌+ℤ◌}
use Rattle.std.proofs.Common.{◌-ℤ◌, ◌*ℤ◌, ◌≤ℤ◌, slice_index_or, refl, sym, ap, subst, ◌∙◌, arith}
use Rattle.std.proofs.Math.Nat.{lt-div-mul-add, div-mul-le_self, div-lt_iff_lt-mul, le-div_iff_mul-le, add-mul}
use lib.IntN.{*ℤ_comm}
use Rattle.definitions.proofs.Ring.{linear, zero-mulℤ, mul-subℤ, mul-zeroℤ, suc-mulℤ}
use Rattle.definitions.specs.Games.{Game, Allocation, share, IsAllocation}
use Rattle.real_shares.specs.Numbers.{Numbers, Equal, multiple, times}
use Rattle.real_shares.specs.Shares.{number_of, IsWrittenAs}
use Rattle.real_shares.specs.Reals.{Real, AreReals}

rounds_above : (a b q : ℕ) → 0 < q → (a + b) / q < a / q + b / q + 2
rounds_above a b q h =
    let u = lt-div-mul-add {a = a} {b = q} h in
    let v = lt-div-mul-add {a = b} {b = q} h in
    (div-lt_iff_lt-mul {k = q} {x = a + b} {y = a / q + b / q + 2} h).1 (omega (arith, u, v))

rounds_below : (a b q : ℕ) → 0 < q → a / q + b / q ≤ (a + b) / q
rounds_below a b q h =
    let u = div-mul-le_self a q in
    (le-div_iff_mul-le {k = q} {x = a / q + b / q} {y = a + b} h).1 (omega (arith, u, div-mul-le_self b q))

some : (r : ℕ) → 0 < suc r
some r = omega arith

-- u over r + 1
abbrev quotient : ℕ → ℕ → Real
quotient u r = record {
  near = λ n. pos (n * u / suc r);
  error = 1;
  above = λ m n.
      omega (arith, linear, rounds_above (m * u) (n * u) (suc r) (some r), ap (λ (k : ℕ). k / suc r) (add-mul m n u));
  below = λ m n.
      omega (arith, linear, rounds_below (m * u) (n * u) (suc r) (some r), ap (λ (k : ℕ). k / suc r) (add-mul m n u));
}

module _ (N : Numbers Real) (R : AreReals N) where
  pub multiple-near : (k : ℕ) (a : Real) (n : ℕ) → (multiple N k a).near n ≡ pos k *ℤ a.near n
  multiple-near zero a n = R.zero n ∙ sym (zero-mulℤ (a.near n))
  multiple-near (suc k) a n =
      R.plus (multiple N k a) a n ∙ ap (λ z. z +ℤ a.near n) (multiple-near k a n) ∙ sym (suc-mulℤ k (a.near n))

  equal-near : (a b : Real) (k : ℕ) → ((n : ℕ) → a.near n ≤ℤ (b.near n +ℤ pos k))
      → ((n : ℕ) → b.near n ≤ℤ (a.near n +ℤ pos k)) → Equal N a b
  equal-near a b k h i = (R.decides a b (k, h), R.decides b a (k, i))

  -- what is a over r + 1
  abbrev written : ℤ → ℕ → Real
  written (pos u) r = quotient u r
  written (negsuc u) r = N.minus (quotient (suc u) r)

  units-near : (u n : ℕ) → (multiple N u N.unit).near n ≡ pos (n * u)
  units-near u n = multiple-near u N.unit n ∙ ap (◌*ℤ◌ (pos u)) (R.unit n) ∙ *ℤ_comm (pos u) (pos n)

  quotient-near : (u r n : ℕ) → (multiple N (suc r) (quotient u r)).near n ≡ pos (n * u / suc r * suc r)
  quotient-near u r n = multiple-near (suc r) (quotient u r) n ∙ *ℤ_comm (pos (suc r)) (pos (n * u / suc r))

  minus-near : (u r n : ℕ)
      → (multiple N (suc r) (N.minus (quotient u r))).near n ≡ pos 0 -ℤ pos (n * u / suc r * suc r)
  minus-near u r n =
      multiple-near (suc r) (N.minus (quotient u r)) n
      ∙ ap (◌*ℤ◌ (pos (suc r))) (R.minus (quotient u r) n)
      ∙ mul-subℤ (pos (suc r)) (pos 0) (pos (n * u / suc r))
      ∙ ap (λ z. z -ℤ pos (suc r) *ℤ pos (n * u / suc r)) (mul-zeroℤ (pos (suc r)))
      ∙ ap (λ z. pos 0 -ℤ z) (*ℤ_comm (pos (suc r)) (pos (n * u / suc r)))

  written-times : (a : ℤ) (r : ℕ) → Equal N (times N a N.unit) (times N (pos (suc r)) (written a r))
  written-times (pos u) r =
      equal-near (multiple N u N.unit) (multiple N (suc r) (quotient u r)) (suc r)
      (λ n.
      omega (arith, linear, units-near u n, quotient-near u r n, lt-div-mul-add {a = n * u} {b = suc r} (some r)))
      (λ n.
      omega (arith, linear, units-near u n, quotient-near u r n, div-mul-le_self (n * u) (suc r)))
  written-times (negsuc u) r =
      equal-near (N.minus (multiple N (suc u) N.unit)) (multiple N (suc r) (N.minus (quotient (suc u) r))) (suc r)
      (λ n.
      let p = R.minus (multiple N (suc u) N.unit) n in
      omega (arith, linear, p, units-near (suc u) n, minus-near (suc u) r n, div-mul-le_self (n * suc u) (suc r)))
      (λ n.
      let p = R.minus (multiple N (suc u) N.unit) n in
      let t = units-near (suc u) n in
      omega (arith, linear, p, t, minus-near (suc u) r n, lt-div-mul-add {a = n * suc u} {b = suc r} (some r)))

  abbrev all_written : List ℤ → ℕ → List Real
  all_written [] r = []
  all_written (a ∷ l) r = written a r ∷ all_written l r

  length-written : (l : List ℤ) (r : ℕ) → length (all_written l r) ≡ length l
  length-written [] r = refl
  length-written (a ∷ l) r = ap suc (length-written l r)

  shares-written : (l : List ℤ) (r i : ℕ) → i < length l
      → Equal N (times N (slice_index_or l i (pos 0)) N.unit)
      (times N (pos (suc r)) (slice_index_or (all_written l r) i N.zero))
  shares-written [] r i h = absurd (omega arith)
  shares-written (a ∷ l) r zero h = written-times a r
  shares-written (a ∷ l) r (suc i) h = shares-written l r i (omega arith)

  from_one : (z : ℤ) → pos 1 ≤ℤ z → (r : ℕ) × (pos (suc r) ≡ z)
  from_one (pos zero) h = absurd (omega (arith, linear))
  from_one (pos (suc r)) h = (r, refl)
  from_one (negsuc r) h = absurd (omega (arith, linear))

  -- shares in fractions are real shares
  pub reals_written : (g : Game) (x : Allocation) → IsAllocation g x → (y : List Real) × IsWrittenAs N g x y
  reals_written g x h =
      let (r, e) = from_one x.den h.1 in (
        all_written x.shares r,
        (
          length-written x.shares r ∙ h.0,
          λ i lt. subst
              (λ z. Equal N (times N (share x i) N.unit) (times N z (number_of N (all_written x.shares r) i))) e
              (shares-written x.shares r i (omega (arith, lt, h.0))),
        ),
      )
