-- Any players have an order by their numbers: the last player is put in after all others of no greater number.
use Rattle.std.proofs.Common.{◌≡◌, ◌⊎◌, ℕ, zero, suc, ◌+◌, ◌-◌, ◌*◌, ◌^◌, ◌<◌, ◌≤◌, cond, nat_lt, nat_eq, refl, sym, ap}
use Rattle.std.proofs.Common.{◌∙◌, inl, inr, arith, add-zero, add-suc}
use Rattle.std.proofs.Math.Nat.{pow-suc, mul_comm}
use Rattle.std.proofs.Math.Pow.{pow_pos}
use Rattle.definitions.proofs.Cases.{less_or_last, less_same_or_greater, nat_lt-less, nat_lt-past, nat_eq-same}
use Rattle.definitions.proofs.Cases.{nat_eq-other, suc-less_one, below_or_above}
use Rattle.orders.specs.Orders.{front, IsOrder}

-- ---- the place of the last player

pub gap_up_to : (n : ℕ) (number at : ℕ → ℕ) (c : ℕ) → IsOrder n number at → (m : ℕ) → m ≤ n
    → (p : ℕ) × (p ≤ m) × ((k : ℕ) → k < p → number (at k) ≤ c)
    × ((k : ℕ) → p ≤ k → k < m → c ≤ number (at k))
gap_up_to n number at c o zero le = (0, omega arith, λ k lt. absurd (omega arith), λ k ge lt. absurd (omega arith))
gap_up_to n number at c o (suc m) le =
    let ih = gap_up_to n number at c o m (omega arith) in
    elim (below_or_above c (number (at m))) [
      | inl more ↦ (
        ih.0,
        omega (arith, ih.1),
        ih.2,
        λ k ge lt. elim (less_or_last k m lt) [
          | inl less ↦ ih.3 k ge less
          | inr same ↦ omega (arith, more, ap (λ (j : ℕ). number (at j)) same)
        ],
      )
      | inr low ↦ (
        suc m,
        omega arith,
        λ k lt. elim (less_or_last k m lt) [
          | inl less ↦ let up = o.rising k m less (omega arith) in omega (arith, up, low)
          | inr same ↦ omega (arith, low, ap (λ (j : ℕ). number (at j)) same)
        ],
        λ k ge lt. absurd (omega arith),
      )
    ]

-- ---- with the last player put in at place p

pub put : (ℕ → ℕ) → ℕ → ℕ → ℕ → ℕ
put at new p k = cond (nat_lt k p) (at k) (cond (nat_eq k p) new (at (k - 1)))

pub put-before : (at : ℕ → ℕ) (new p k : ℕ) → k < p → put at new p k ≡ at k
unfolding put
put-before at new p k lt = rw (nat_lt-less k p lt) refl

put-here : (at : ℕ → ℕ) (new p k : ℕ) → k ≡ p → put at new p k ≡ new
unfolding put
put-here at new p k e = rw (e, nat_lt-past p p (omega arith), nat_eq-same p) refl

pub put-behind : (at : ℕ → ℕ) (new p k : ℕ) → p ≤ k → put at new p (suc k) ≡ at k
unfolding put
put-behind at new p k le =
    rw (nat_lt-past (suc k) p (omega arith), nat_eq-other (suc k) p (λ e. omega arith), suc-less_one k) refl

side_of : (k p : ℕ) → (k < p) ⊎ ((k ≡ p) ⊎ ((h : ℕ) × (p ≤ h) × (k ≡ suc h)))
side_of k p = elim (less_same_or_greater k p) [
  | inl less ↦ inl less
  | inr (inl same) ↦ inr (inl same)
  | inr (inr more) ↦ inr (inr (k - 1, omega arith, omega arith))
]

module _ (n : ℕ) (number at : ℕ → ℕ) (o : IsOrder n number at) (p : ℕ) (within : p ≤ n)
    (low : (k : ℕ) → k < p → number (at k) ≤ number n)
    (high : (k : ℕ) → p ≤ k → k < n → number n ≤ number (at k)) where
  abbrev to : ℕ → ℕ
  to k = put at n p k

  to-behind : (k h : ℕ) → p ≤ h → k ≡ suc h → to k ≡ at h
  to-behind k h le e = ap (put at n p) e ∙ put-behind at n p h le

  to_below : (k : ℕ) → k < suc n → to k < suc n
  to_below k lt = elim (side_of k p) [
    | inl less ↦
        let b = o.below k (omega arith) in let e = put-before at n p k less in omega (arith, b, e)
    | inr (inl same) ↦ let e = put-here at n p k same in omega (arith, e)
    | inr (inr (h, le, is)) ↦
        let b = o.below h (omega arith) in let e = to-behind k h le is in omega (arith, b, e)
  ]

  to_apart : (j k : ℕ) → j < k → k < suc n → to j ≡ to k → ⊥
  to_apart j k lt end same = cases (side_of j p) (side_of k p)
    where
      cases : (j < p) ⊎ ((j ≡ p) ⊎ ((h : ℕ) × (p ≤ h) × (j ≡ suc h)))
          → (k < p) ⊎ ((k ≡ p) ⊎ ((h : ℕ) × (p ≤ h) × (k ≡ suc h))) → ⊥
      cases (inl a) (inl b) =
          o.apart j k lt (omega arith) (sym (put-before at n p j a) ∙ same ∙ put-before at n p k b)
      cases (inl a) (inr (inl b)) =
          omega (arith, o.below j (omega arith), put-before at n p j a, put-here at n p k b, same)
      cases (inl a) (inr (inr (h, le, is))) =
          o.apart j h (omega arith) (omega arith) (sym (put-before at n p j a) ∙ same ∙ to-behind k h le is)
      cases (inr (inl a)) (inl b) = omega arith
      cases (inr (inl a)) (inr (inl b)) = omega arith
      cases (inr (inl a)) (inr (inr (h, le, is))) =
          omega (arith, o.below h (omega arith), put-here at n p j a, to-behind k h le is, same)
      cases (inr (inr (i, le, is))) (inl b) = omega arith
      cases (inr (inr (i, le, is))) (inr (inl b)) = omega arith
      cases (inr (inr (i, le, is))) (inr (inr (h, ge, here))) =
          o.apart i h (omega arith) (omega arith) (sym (to-behind j i le is) ∙ same ∙ to-behind k h ge here)

  to_rising : (j k : ℕ) → j < k → k < suc n → number (to j) ≤ number (to k)
  to_rising j k lt end = cases (side_of j p) (side_of k p)
    where
      cases : (j < p) ⊎ ((j ≡ p) ⊎ ((h : ℕ) × (p ≤ h) × (j ≡ suc h)))
          → (k < p) ⊎ ((k ≡ p) ⊎ ((h : ℕ) × (p ≤ h) × (k ≡ suc h))) → number (to j) ≤ number (to k)
      cases (inl a) (inl b) =
          let up = o.rising j k lt (omega arith) in
          omega (arith, up, ap number (put-before at n p j a), ap number (put-before at n p k b))
      cases (inl a) (inr (inl b)) =
          omega (arith, low j a, ap number (put-before at n p j a), ap number (put-here at n p k b))
      cases (inl a) (inr (inr (h, le, is))) =
          let up = o.rising j h (omega arith) (omega arith) in
          omega (arith, up, ap number (put-before at n p j a), ap number (to-behind k h le is))
      cases (inr (inl a)) (inl b) = absurd (omega arith)
      cases (inr (inl a)) (inr (inl b)) = absurd (omega arith)
      cases (inr (inl a)) (inr (inr (h, le, is))) =
          omega (arith, high h le (omega arith), ap number (put-here at n p j a), ap number (to-behind k h le is))
      cases (inr (inr (i, le, is))) (inl b) = absurd (omega arith)
      cases (inr (inr (i, le, is))) (inr (inl b)) = absurd (omega arith)
      cases (inr (inr (i, le, is))) (inr (inr (h, ge, here))) =
          let up = o.rising i h (omega arith) (omega arith) in
          omega (arith, up, ap number (to-behind j i le is), ap number (to-behind k h ge here))

  front-before : (k : ℕ) → k ≤ p → front to k ≡ front at k
  front-before zero le = refl
  front-before (suc k) le =
      omega (arith, front-before k (omega arith), ap (λ (i : ℕ). 2 ^ i) (put-before at n p k (omega arith)))

  front-behind : (d : ℕ) → front to (suc (p + d)) ≡ front at (p + d) + 2 ^ n
  front-behind zero =
      rw add-zero (omega (arith, front-before p (omega arith), ap (λ (i : ℕ). 2 ^ i) (put-here at n p p refl)))
  front-behind (suc d) =
      rw add-suc (omega (arith, front-behind d, ap (λ (i : ℕ). 2 ^ i) (put-behind at n p (p + d) (omega arith))))

  to_full : front to (suc n) ≡ 2 ^ suc n - 1
  to_full =
      let all : p + (n - p) ≡ n = omega arith in
      let sum = ap (λ (k : ℕ). front to (suc k)) (sym all) ∙ front-behind (n - p)
      ∙ ap (λ (k : ℕ). front at k + 2 ^ n) all in
      let double : 2 ^ suc n ≡ 2 * 2 ^ n = pow-suc 2 n ∙ mul_comm (2 ^ n) 2 in
      omega (arith, sum, o.full, double, pow_pos n)

  pub one_more : IsOrder (suc n) number to
  one_more = record { below = to_below; apart = to_apart; rising = to_rising; full = to_full }

pub order_exists : (n : ℕ) (number : ℕ → ℕ) → (at : ℕ → ℕ) × IsOrder n number at
order_exists zero number = (
  λ k. k,
  record {
    below = λ k lt. absurd (omega arith);
    apart = λ j k lt le. absurd (omega arith);
    rising = λ j k lt le. absurd (omega arith);
    full = refl;
  },
)
order_exists (suc n) number =
    let less = order_exists n number in
    let gap = gap_up_to n number less.0 (number n) less.1 n (omega arith) in
    (to n number less.0 less.1 gap.0 gap.1 gap.2 gap.3, one_more n number less.0 less.1 gap.0 gap.1 gap.2 gap.3)
