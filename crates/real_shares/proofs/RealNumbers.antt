-- The real numbers are a linearly ordered abelian group: what is additive up to a bounded error, and once above
-- the bound, is never far below zero.
--
-- If the sequences of two numbers aren't in the one order, their difference passes each bound, so they are in the
-- other. No program decides that order: `AreReals` speaks of a test that excluded middle gives (RealsThere.antt).
use Rattle.std.proofs.Common.{◌≡◌, ◌⊎◌, ℕ, zero, suc, ◌+◌, ◌*◌, ℤ, pos, ◌+ℤ◌, ◌-ℤ◌, ◌*ℤ◌, ◌≤ℤ◌, ◌<ℤ◌, refl, sym, ap}
use Rattle.std.proofs.Common.{subst, inl, inr, arith}
use Rattle.std.proofs.lemmas.Int.{by_lt_z}
use Rattle.std.proofs.Math.Nat.{mul_comm}
use Rattle.definitions.proofs.Ring.{linear, mul-addℤ, mul-oneℤ, mul-zeroℤ, one-mulℤ, mul-leℤ, mul-le_cancelℤ, suc-mulℤ}
use Rattle.real_shares.specs.Numbers.{Numbers, IsOrderedGroup, Equal}
use Rattle.real_shares.specs.Reals.{Real, IsAtMost, AreReals}
use Rattle.real_shares.proofs.Orders.{decided}

-- d is additive but for c
record Steady (c : ℕ) (d : ℕ → ℤ) : Type 0 where
  above : (m n : ℕ) → d (m + n) ≤ℤ (d m +ℤ d n +ℤ pos c)
  below : (m n : ℕ) → (d m +ℤ d n) ≤ℤ (d (m + n) +ℤ pos c)

once : (n : ℕ) → n ≡ suc zero * n
once n = omega arith

once_more : (m n : ℕ) → suc m * n + n ≡ suc (suc m) * n
once_more m n = omega arith

-- m times d n is d (m n), but for m times c
multiples : (c : ℕ) (d : ℕ → ℤ) → Steady c d → (m n : ℕ) → (d (m * n) ≤ℤ (pos m *ℤ d n +ℤ pos m *ℤ pos c)) ⊎ (m ≡ 0)
multiples c d s zero n = inr refl
multiples c d s (suc zero) n =
    inl
    (subst (λ k. d k ≤ℤ (pos 1 *ℤ d n +ℤ pos 1 *ℤ pos c)) (once n)
    (omega (arith, linear, one-mulℤ (d n), one-mulℤ (pos c))))
multiples c d s (suc (suc m)) n = elim (multiples c d s (suc m) n) [
  | inl ih ↦
      inl (subst (λ k. d k ≤ℤ (pos (suc (suc m)) *ℤ d n +ℤ pos (suc (suc m)) *ℤ pos c)) (once_more m n)
      (omega (arith, linear, ih, s.above (suc m * n) n, suc-mulℤ (suc m) (d n), suc-mulℤ (suc m) (pos c))))
  | inr e ↦ absurd (omega arith)
]

multiples_below : (c : ℕ) (d : ℕ → ℤ) → Steady c d → (m n : ℕ)
    → ((pos m *ℤ d n) ≤ℤ (d (m * n) +ℤ pos m *ℤ pos c)) ⊎ (m ≡ 0)
multiples_below c d s zero n = inr refl
multiples_below c d s (suc zero) n =
    inl
    (subst (λ k. (pos 1 *ℤ d n) ≤ℤ (d k +ℤ pos 1 *ℤ pos c)) (once n)
    (omega (arith, linear, one-mulℤ (d n), one-mulℤ (pos c))))
multiples_below c d s (suc (suc m)) n = elim (multiples_below c d s (suc m) n) [
  | inl ih ↦
      inl (subst (λ k. (pos (suc (suc m)) *ℤ d n) ≤ℤ (d k +ℤ pos (suc (suc m)) *ℤ pos c)) (once_more m n)
      (omega (arith, linear, ih, s.below (suc m * n) n, suc-mulℤ (suc m) (d n), suc-mulℤ (suc m) (pos c))))
  | inr e ↦ absurd (omega arith)
]

-- once above c, never below -c
never_low : (c : ℕ) (d : ℕ → ℤ) → Steady c d → (m n : ℕ) → pos c <ℤ d m → pos 0 ≤ℤ (d n +ℤ pos c)
never_low c d s zero n up =
    let twice : (d 0 +ℤ d 0) ≤ℤ (d 0 +ℤ pos c) = s.below 0 0 in
    absurd (omega (arith, linear, up, twice))
never_low c d s (suc m) zero up =
    let twice : d 0 ≤ℤ (d 0 +ℤ d 0 +ℤ pos c) = s.above 0 0 in
    omega (arith, linear, twice)
never_low c d s (suc m) (suc n) up =
    elim (multiples c d s (suc m) (suc n)) [
      | inr e ↦ absurd (omega arith)
      | inl first ↦ elim (multiples_below c d s (suc n) (suc m)) [
        | inr e ↦ absurd (omega arith)
        | inl second ↦
            let p = pos (suc m) in
            let q = pos (suc n) in
            let turned : d (suc m * suc n) ≡ d (suc n * suc m) = ap d (mul_comm (suc m) (suc n)) in
            -- q times d m is at least q times c and q more
            mul-le_cancelℤ p (pos 0) (d (suc n) +ℤ pos c) (omega (arith, linear))
            (omega (
              arith,
              linear,
              first,
              second,
              turned,
              mul-leℤ q (pos c +ℤ pos 1) (d (suc m)) (omega (arith, linear)) (omega (arith, linear)),
              mul-addℤ q (pos c) (pos 1),
              mul-oneℤ q,
              mul-addℤ p (d (suc n)) (pos c),
              mul-zeroℤ p,
            ))
      ]
    ]

difference_steady : (a b : Real) → Steady (a.error + b.error) (λ n. b.near n -ℤ a.near n)
difference_steady a b = record {
  above = λ m n. let u = b.above m n in let v = a.below m n in omega (arith, linear, u, v);
  below = λ m n. let u = b.below m n in let v = a.above m n in omega (arith, linear, u, v);
}

-- of two real numbers that aren't in the one order, the sequences are in the other, but for the two errors
other_order : (a b : Real) → (¬ IsAtMost b a) → IsAtMost a b
other_order a b h = (
  a.error + b.error,
  λ n. by_lt_z (b.near n +ℤ pos (a.error + b.error)) (a.near n)
      (λ up. absurd
      (h (
        b.error + a.error,
        λ k.
            let low = never_low (b.error + a.error) (λ n. a.near n -ℤ b.near n) (difference_steady b a) n k
            (omega (arith, linear, up)) in
            omega (arith, linear, low),
      )))
      (λ le. le),
)

-- once d is above c, its multiples pass each bound
unbounded : (c : ℕ) (d : ℕ → ℤ) → Steady c d → (n k : ℕ) → pos c <ℤ d n → ((m : ℕ) → d m ≤ℤ pos k) → ⊥
unbounded c d s n k up bound = elim (multiples_below c d s (suc k) n) [
  | inr e ↦ absurd (omega arith)
  | inl h ↦
      let q = pos (suc k) in
      let most = mul-leℤ q (pos c +ℤ pos 1) (d n) (omega (arith, linear)) (omega (arith, linear)) in
      omega (arith, linear, h, bound (suc k * n), most, mul-addℤ q (pos c) (pos 1), mul-oneℤ q)
]

-- the order holds where it can't fail
pub stable : (a b : Real) → (¬ (¬ IsAtMost a b)) → IsAtMost a b
stable a b h = (
  b.error + a.error,
  λ n. by_lt_z (b.near n +ℤ pos (b.error + a.error)) (a.near n)
      (λ up. absurd
      (h
      (λ (k, i). unbounded (b.error + a.error) (λ n. a.near n -ℤ b.near n) (difference_steady b a) n k
      (omega (arith, linear, up)) (λ m. let u = i m in omega (arith, linear, u)))))
      (λ le. le),
)

at_most-trans : (a b c : Real) → IsAtMost a b → IsAtMost b c → IsAtMost a c
at_most-trans a b c (k, h) (j, i) = (k + j, λ n. let u = h n in let v = i n in omega (arith, linear, u, v))

at_most-from : (a b : Real) → ((n : ℕ) → a.near n ≡ b.near n) → IsAtMost a b
at_most-from a b e = (0, λ n. let u = e n in omega (arith, linear, u))

pub are_ordered : (N : Numbers Real) → AreReals N → IsOrderedGroup N
are_ordered N R = record {
  linear = λ a b. elim (decided (N.at_most a b)) [
    | inl h ↦ inl h
    | inr h ↦ inr (R.decides b a (other_order b a (λ k. h (R.decides a b k))))
  ];
  transitive = λ a b c h k. R.decides a c (at_most-trans a b c (R.at_most a b h) (R.at_most b c k));
  shifts = λ a b c h.
      let (k, i) = R.at_most a b h in
      R.decides (N.plus a c) (N.plus b c)
      (k, λ n. let u = i n in omega (arith, linear, u, R.plus a c n, R.plus b c n));
  commutes = λ a b. equal (N.plus a b) (N.plus b a) (λ n. omega (arith, linear, R.plus a b n, R.plus b a n));
  associates = λ a b c.
      equal (N.plus (N.plus a b) c) (N.plus a (N.plus b c))
      (λ n. omega (arith, linear, R.plus (N.plus a b) c n, R.plus a b n, R.plus a (N.plus b c) n, R.plus b c n));
  neutral = λ a. equal (N.plus a N.zero) a (λ n. omega (arith, linear, R.plus a N.zero n, R.zero n));
  inverse = λ a. equal (N.plus a (N.minus a)) N.zero
      (λ n. omega (arith, linear, R.plus a (N.minus a) n, R.minus a n, R.zero n));
  positive = λ h.
      let (k, i) = R.at_most N.unit N.zero h in
      omega (arith, linear, i (suc k), R.unit (suc k), R.zero (suc k));
}
  where
    equal : (a b : Real) → ((n : ℕ) → a.near n ≡ b.near n) → Equal N a b
    equal a b e = (R.decides a b (at_most-from a b e), R.decides b a (at_most-from b a (λ n. sym (e n))))
