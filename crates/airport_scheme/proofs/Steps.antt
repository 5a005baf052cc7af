-- One step of Littlechild's scheme.
use Rattle.std.proofs.Common.{◌≡◌, ◌⊎◌, ℕ, zero, suc, ◌+◌, ◌-◌, ◌<◌, ◌≤◌, ℤ}
use Rattle.std.proofs.Common.{pos, ◌+ℤ◌, ◌-ℤ◌, ◌*ℤ◌, ◌≤ℤ◌, ◌<ℤ◌}
use Rattle.std.proofs.Common.{refl, sym, ap, ◌∙◌, inl, inr, arith, add-zero, add-suc, add_assoc}
use Rattle.std.proofs.lemmas.Int.{ints, by_lt_z}
use Rattle.definitions.proofs.Ring.{ring_laws, linear, linear, mul-leℤ, add-mulℤ, mul-subℤ}
use Rattle.definitions.proofs.Ring.{mul-nonnegativeℤ, one-mulℤ, suc-mulℤ}
use Rattle.definitions.specs.Sums.{sum_below}
use Rattle.airport_scheme.specs.Scheme.{IsScheme}
use Rattle.definitions.proofs.Cases.{below_or_above, less_same_or_greater}
use Rattle.fractions.proofs.Ratios.{product_positive}

-- what is left of the cost at place l
abbrev pub left : (ℕ → ℕ) → (ℕ → ℤ) → ℤ → ℕ → ℕ → ℤ
left c pay den i l = den *ℤ pos (c l) -ℤ sum_below i pay

-- the first i places pay, the last of them the rate, and each later place leaves room for the rate
pub record IsPart (n : ℕ) (c : ℕ → ℕ) (pay : ℕ → ℤ) (den : ℤ) (i : ℕ) (rate : ℤ) : Type 0 where
  pub positive : pos 1 ≤ℤ den
  pub bottom : pos 0 ≤ℤ rate
  pub last : (k : ℕ) → suc k ≡ i → pay k ≡ rate
  pub least : (k : ℕ) → k < i → pos 0 ≤ℤ pay k
  pub up : (k : ℕ) → k < i → pay k ≤ℤ rate
  pub rises : (j k : ℕ) → j < k → k < i → pay j ≤ℤ pay k
  pub under : (k : ℕ) → k < i → suc k < n → (sum_below (suc k) pay +ℤ pay k) ≤ℤ (den *ℤ pos (c k))
  pub tight : (k : ℕ) → suc k < i → pay k <ℤ pay (suc k) → sum_below (suc k) pay +ℤ pay k ≡ den *ℤ pos (c k)
  pub here : (k : ℕ) → suc k ≡ i → i < n → sum_below i pay +ℤ rate ≡ den *ℤ pos (c k)
  pub room : (b : ℕ) → suc (i + b) < n → (pos (b + 2) *ℤ rate) ≤ℤ left c pay den i (i + b)
  pub end : (b : ℕ) → suc (i + b) ≡ n → (pos (suc b) *ℤ rate) ≤ℤ left c pay den i (i + b)
  pub all : (k : ℕ) → suc k ≡ n → i ≡ n → sum_below n pay ≡ den *ℤ pos (c k)

-- the block up to place i + b pays the least rate r, over m times the denominator
pub record IsNext (n : ℕ) (c : ℕ → ℕ) (pay : ℕ → ℤ) (den : ℤ) (i b : ℕ) (m r : ℤ) : Type 0 where
  pub within : i + suc b ≤ n
  pub rate : r ≡ left c pay den i (i + b)
  pub size : ((suc (i + b) < n) × (m ≡ pos (b + 2))) ⊎ ((suc (i + b) ≡ n) × (m ≡ pos (suc b)))
  pub inner : (d : ℕ) → suc (i + d) < n → (pos (d + 2) *ℤ r) ≤ℤ (m *ℤ left c pay den i (i + d))
  pub outer : (d : ℕ) → suc (i + d) ≡ n → (pos (suc d) *ℤ r) ≤ℤ (m *ℤ left c pay den i (i + d))

pub IsPart-start : (n : ℕ) (c : ℕ → ℕ) (pay : ℕ → ℤ) → 1 ≤ n → IsPart n c pay (pos 1) 0 (pos 0)
IsPart-start n c pay some = record {
  positive = omega (arith, ints);
  bottom = omega (arith, ints);
  last = λ k e. absurd (omega arith);
  least = λ k lt. absurd (omega arith);
  up = λ k lt. absurd (omega arith);
  rises = λ j k lt le. absurd (omega arith);
  under = λ k lt le. absurd (omega arith);
  tight = λ k lt more. absurd (omega arith);
  here = λ k e lt. absurd (omega arith);
  room = λ b lt. omega (arith, ints);
  end = λ b e. omega (arith, ints);
  all = λ k e f. absurd (omega arith);
}

-- ---- sums after the step

pub sum-scaled : (i : ℕ) (f g : ℕ → ℤ) (m : ℤ) → ((j : ℕ) → j < i → g j ≡ m *ℤ f j) → (k : ℕ) → k ≤ i
    → sum_below k g ≡ m *ℤ sum_below k f
sum-scaled i f g m h zero le = omega (arith, ints)
sum-scaled i f g m h (suc k) le =
    added (sum_below k g) (g k) (sum_below k f) (f k) (sum-scaled i f g m h k (omega arith)) (h k (omega arith))
  where
    added : (u v a b : ℤ) → u ≡ m *ℤ a → v ≡ m *ℤ b → u +ℤ v ≡ m *ℤ (a +ℤ b)
    added u v a b e f = simp ring_laws (omega (arith, linear))

pub sum-block : (i : ℕ) (g : ℕ → ℤ) (r : ℤ) (b : ℕ) → ((d : ℕ) → d < b → g (i + d) ≡ r)
    → sum_below (i + b) g ≡ sum_below i g +ℤ pos b *ℤ r
sum-block i g r zero h = rw add-zero (omega (arith, ints))
sum-block i g r (suc b) h =
    rw add-suc
    (added (sum_below (i + b) g) (g (i + b)) (sum_below i g) b (sum-block i g r b (λ d lt. h d (omega arith)))
    (h b (omega arith)))
  where
    added : (u v a : ℤ) (b : ℕ) → u ≡ a +ℤ pos b *ℤ r → v ≡ r → u +ℤ v ≡ a +ℤ pos (suc b) *ℤ r
    added u v a b e f = omega (arith, linear, suc-mulℤ b r)

split_place : (i b j : ℕ) → j < i + suc b → (j < i) ⊎ ((d : ℕ) × (d < suc b) × (j ≡ i + d))
split_place i b j lt =
    elim (below_or_above j i) [ inl less ↦ inl less | inr ge ↦ inr (j - i, omega arith, omega arith) ]

-- ---- the step over plain numbers

times_down : (m a b : ℤ) → pos 1 ≤ℤ m → (m *ℤ a) <ℤ (m *ℤ b) → a <ℤ b
times_down m a b one h =
    by_lt_z a b (λ lt. lt)
    (λ le. absurd (omega (arith, linear, mul-leℤ m b a (omega (arith, linear)) le)))

under_scaled : (m x p den C : ℤ) → pos 1 ≤ℤ m → (x +ℤ p) ≤ℤ (den *ℤ C) → (m *ℤ x +ℤ m *ℤ p) ≤ℤ ((den *ℤ m) *ℤ C)
under_scaled m x p den C one h =
    let k = simp ring_laws at (mul-leℤ m (x +ℤ p) (den *ℤ C) (omega (arith, linear)) h) in
    simp ring_laws (omega (arith, linear))

tight_scaled : (m x p den C : ℤ) → x +ℤ p ≡ den *ℤ C → m *ℤ x +ℤ m *ℤ p ≡ (den *ℤ m) *ℤ C
tight_scaled m x p den C h =
    let k = simp ring_laws at (ap (λ (z : ℤ). m *ℤ z) h) in
    simp ring_laws (omega (arith, linear))

under_new : (m x s t r den C y : ℤ) → t ≡ s +ℤ pos 1 → y ≡ m *ℤ x +ℤ s *ℤ r → (t *ℤ r) ≤ℤ (m *ℤ (den *ℤ C -ℤ x))
    → (y +ℤ r) ≤ℤ ((den *ℤ m) *ℤ C)
under_new m x s t r den C y e f h =
    let g = ap (λ (z : ℤ). z *ℤ r) e ∙ add-mulℤ s (pos 1) r in
    let u = one-mulℤ r in
    let k : (t *ℤ r) ≤ℤ (m *ℤ (den *ℤ C) -ℤ m *ℤ x) = omega (arith, linear, mul-subℤ m (den *ℤ C) x) in
    let a : m *ℤ (den *ℤ C) ≡ (den *ℤ m) *ℤ C = simp ring_laws in
    omega (arith, linear)

room_new : (m x s t u r den C y : ℤ) → u ≡ s +ℤ t → y ≡ m *ℤ x +ℤ s *ℤ r → (u *ℤ r) ≤ℤ (m *ℤ (den *ℤ C -ℤ x))
    → (t *ℤ r) ≤ℤ ((den *ℤ m) *ℤ C -ℤ y)
room_new m x s t u r den C y e f h =
    let g = ap (λ (z : ℤ). z *ℤ r) e ∙ add-mulℤ s t r in
    let k : (u *ℤ r) ≤ℤ (m *ℤ (den *ℤ C) -ℤ m *ℤ x) = omega (arith, linear, mul-subℤ m (den *ℤ C) x) in
    let a : m *ℤ (den *ℤ C) ≡ (den *ℤ m) *ℤ C = simp ring_laws in
    omega (arith, linear)

here_new : (m x s r den C y : ℤ) → m ≡ s +ℤ pos 1 → r ≡ den *ℤ C -ℤ x → y ≡ m *ℤ x +ℤ s *ℤ r
    → y +ℤ r ≡ (den *ℤ m) *ℤ C
here_new m x s r den C y e h f =
    let g = ap (λ (z : ℤ). z *ℤ r) e ∙ add-mulℤ s (pos 1) r in
    let u = one-mulℤ r in
    let k = ap (λ (z : ℤ). m *ℤ z) h ∙ mul-subℤ m (den *ℤ C) x in
    let a : m *ℤ (den *ℤ C) ≡ (den *ℤ m) *ℤ C = simp ring_laws in
    omega (arith, linear)

all_new : (m x s r den C y : ℤ) → m ≡ s → r ≡ den *ℤ C -ℤ x → y ≡ m *ℤ x +ℤ s *ℤ r → y ≡ (den *ℤ m) *ℤ C
all_new m x s r den C y e h f =
    let g = ap (λ (z : ℤ). z *ℤ r) e in
    let k = ap (λ (z : ℤ). m *ℤ z) h ∙ mul-subℤ m (den *ℤ C) x in
    let a : m *ℤ (den *ℤ C) ≡ (den *ℤ m) *ℤ C = simp ring_laws in
    omega (arith, linear)

-- ---- the step

size-positive : (n i b : ℕ) (m : ℤ)
    → ((suc (i + b) < n) × (m ≡ pos (b + 2))) ⊎ ((suc (i + b) ≡ n) × (m ≡ pos (suc b))) → pos 1 ≤ℤ m
size-positive n i b m (inl h) = omega (arith, ints)
size-positive n i b m (inr h) = omega (arith, ints)

-- the rate doesn't fall
rate-rises : (n : ℕ) (c : ℕ → ℕ) (pay : ℕ → ℤ) (den : ℤ) (i b : ℕ) (rate m r : ℤ) → IsPart n c pay den i rate
    → IsNext n c pay den i b m r → (m *ℤ rate) ≤ℤ r
rate-rises n c pay den i b rate m r p q = cases q.size
  where
    cases : ((suc (i + b) < n) × (m ≡ pos (b + 2))) ⊎ ((suc (i + b) ≡ n) × (m ≡ pos (suc b))) → (m *ℤ rate) ≤ℤ r
    cases (inl h) = omega (arith, linear, p.room b h.0, ap (λ (z : ℤ). z *ℤ rate) h.1)
    cases (inr h) = omega (arith, linear, p.end b h.0, ap (λ (z : ℤ). z *ℤ rate) h.1)

pub IsPart-next : (n : ℕ) (c : ℕ → ℕ) (pay : ℕ → ℤ) (den : ℤ) (i b : ℕ) (rate m r : ℤ) (more : ℕ → ℤ)
    → IsPart n c pay den i rate → IsNext n c pay den i b m r → ((j : ℕ) → j < i → more j ≡ m *ℤ pay j)
    → ((d : ℕ) → d < suc b → more (i + d) ≡ r) → IsPart n c more (den *ℤ m) (i + suc b) r
IsPart-next n c pay den i b rate m r more p q before block = record {
  positive = product_positive den m p.positive factor_positive;
  bottom = bottom;
  last = λ k e. ap more (place_of k e) ∙ block b (omega arith);
  least =
      λ k lt. elim (split_place i b k lt) [ inl less ↦ least_before k less | inr d ↦ rw (d.2, block d.0 d.1) bottom ];
  up = λ k lt. elim (split_place i b k lt)
      [ inl less ↦ up_before k less | inr d ↦ rw (d.2, block d.0 d.1) (omega (arith, ints)) ];
  rises = λ j k lt le. rising j k lt (split_place i b j (omega arith)) (split_place i b k le);
  under = λ k lt le. elim (split_place i b k lt)
      [ inl less ↦ under_before k less le | inr d ↦ under_block k d.0 d.1 d.2 le ];
  tight = λ k lt up. tight_at k lt up (less_same_or_greater (suc k) i);
  here = λ k e lt. here_at k (place_of k e) lt;
  room = λ d lt.
      let q_in = q.inner (suc b + d) (omega arith) in
      room_new m (sum_below i pay) (pos (suc b)) (pos (d + 2)) (pos (suc b + d + 2)) r den (pos (c (i + suc b + d)))
      (sum_below (i + suc b) more) (omega (arith, ints)) whole (rw (add_assoc i (suc b) d) q_in);
  end = λ d e.
      let q_out = q.outer (suc b + d) (omega arith) in
      room_new m (sum_below i pay) (pos (suc b)) (pos (suc d)) (pos (suc (suc b + d))) r den (pos (c (i + suc b + d)))
      (sum_below (i + suc b) more) (omega (arith, ints)) whole (rw (add_assoc i (suc b) d) q_out);
  all = λ k e f. all_at k (place_of k (e ∙ sym f)) f;
}
  where
    factor_positive : pos 1 ≤ℤ m
    factor_positive = size-positive n i b m q.size

    rise : (m *ℤ rate) ≤ℤ r
    rise = rate-rises n c pay den i b rate m r p q

    bottom : pos 0 ≤ℤ r
    bottom =
        let z = mul-nonnegativeℤ m rate (omega (arith, linear, factor_positive)) p.bottom in
        omega (arith, linear, rise)

    whole : sum_below (i + suc b) more ≡ m *ℤ sum_below i pay +ℤ pos (suc b) *ℤ r
    whole =
        sum-block i more r (suc b) block
        ∙ ap (λ (z : ℤ). z +ℤ pos (suc b) *ℤ r) (sum-scaled i pay more m before i (omega arith))

    place_of : (k : ℕ) → suc k ≡ i + suc b → k ≡ i + b
    place_of k e = omega arith

    least_before : (k : ℕ) → k < i → pos 0 ≤ℤ more k
    least_before k lt =
        rw (before k lt) (mul-nonnegativeℤ m (pay k) (omega (arith, linear, factor_positive)) (p.least k lt))

    up_before : (k : ℕ) → k < i → more k ≤ℤ r
    up_before k lt =
        let z = mul-leℤ m (pay k) rate (omega (arith, linear, factor_positive)) (p.up k lt) in
        omega (arith, linear, rise, before k lt)

    rising : (j k : ℕ) → j < k → (j < i) ⊎ ((d : ℕ) × (d < suc b) × (j ≡ i + d))
        → (k < i) ⊎ ((d : ℕ) × (d < suc b) × (k ≡ i + d)) → more j ≤ℤ more k
    rising j k lt (inl a) (inl e) =
        let z = mul-leℤ m (pay j) (pay k) (omega (arith, linear, factor_positive)) (p.rises j k lt e) in
        omega (arith, linear, before j a, before k e)
    rising j k lt (inl a) (inr e) = rw (e.2, block e.0 e.1) (up_before j a)
    rising j k lt (inr a) (inl e) = absurd (omega arith)
    rising j k lt (inr a) (inr e) = rw (a.2, e.2, block a.0 a.1, block e.0 e.1) (omega (arith, ints))

    under_before : (k : ℕ) → k < i → suc k < n → (sum_below (suc k) more +ℤ more k) ≤ℤ ((den *ℤ m) *ℤ pos (c k))
    under_before k lt le =
        let s = sum-scaled i pay more m before (suc k) lt in
        rw (s, before k lt)
        (under_scaled m (sum_below (suc k) pay) (pay k) den (pos (c k)) factor_positive (p.under k lt le))

    under_block : (k d : ℕ) → d < suc b → k ≡ i + d → suc k < n
        → (sum_below (suc k) more +ℤ more k) ≤ℤ ((den *ℤ m) *ℤ pos (c k))
    under_block k d lt e le =
        let s : sum_below (i + suc d) more ≡ m *ℤ sum_below i pay +ℤ pos (suc d) *ℤ r =
        sum-block i more r (suc d) (λ f h. block f (omega arith))
        ∙ ap (λ (z : ℤ). z +ℤ pos (suc d) *ℤ r) (sum-scaled i pay more m before i (omega arith)) in
        let t : sum_below (suc (i + d)) more ≡ m *ℤ sum_below i pay +ℤ pos (suc d) *ℤ r = rw add-suc at s in
        let z =
        under_new m (sum_below i pay) (pos (suc d)) (pos (d + 2)) r den (pos (c (i + d)))
        (sum_below (suc (i + d)) more) (omega (arith, ints)) t (q.inner d (omega arith)) in
        let bl = block d lt in
        rw e (omega (arith, linear))

    tight_at : (k : ℕ) → suc k < i + suc b → more k <ℤ more (suc k) → (suc k < i) ⊎ ((suc k ≡ i) ⊎ (i < suc k))
        → sum_below (suc k) more +ℤ more k ≡ (den *ℤ m) *ℤ pos (c k)
    tight_at k lt up (inl less) =
        let s = sum-scaled i pay more m before (suc k) (omega arith) in
        let bk = before k (omega arith) in
        let bs = before (suc k) less in
        let up_before = times_down m (pay k) (pay (suc k)) factor_positive (omega (arith, linear)) in
        rw (s, bk) (tight_scaled m (sum_below (suc k) pay) (pay k) den (pos (c k)) (p.tight k less up_before))
    tight_at k lt up (inr (inl same)) =
        let s = sum-scaled i pay more m before (suc k) (omega arith) in
        let bk = before k (omega arith) in
        let here = p.here k same (omega arith) in
        let x : sum_below i pay ≡ sum_below (suc k) pay = ap (λ (j : ℕ). sum_below j pay) (sym same) in
        rw (s, bk)
        (tight_scaled m (sum_below (suc k) pay) (pay k) den (pos (c k))
        (omega (arith, linear, p.last k same)))
    tight_at k lt up (inr (inr past)) =
        let u = in_block k (omega arith) (omega arith) in
        let v = in_block (suc k) (omega arith) lt in
        absurd (omega (arith, ints))
      where
        in_block : (j : ℕ) → i ≤ j → j < i + suc b → more j ≡ r
        in_block j le h =
            elim (split_place i b j h) [ inl less ↦ absurd (omega arith) | inr d ↦ ap more d.2 ∙ block d.0 d.1 ]

    here_at : (k : ℕ) → k ≡ i + b → i + suc b < n → sum_below (i + suc b) more +ℤ r ≡ (den *ℤ m) *ℤ pos (c k)
    here_at k e lt = rw e
        (here_new m (sum_below i pay) (pos (suc b)) r den (pos (c (i + b))) (sum_below (i + suc b) more)
        (inner_size q.size) q.rate whole)
      where
        inner_size : ((suc (i + b) < n) × (m ≡ pos (b + 2))) ⊎ ((suc (i + b) ≡ n) × (m ≡ pos (suc b)))
            → m ≡ pos (suc b) +ℤ pos 1
        inner_size (inl h) = omega (arith, ints)
        inner_size (inr h) = absurd (omega arith)

    all_at : (k : ℕ) → k ≡ i + b → i + suc b ≡ n → sum_below n more ≡ (den *ℤ m) *ℤ pos (c k)
    all_at k e f =
        rw (e, ← f)
        (all_new m (sum_below i pay) (pos (suc b)) r den (pos (c (i + b))) (sum_below (i + suc b) more)
        (outer_size q.size) q.rate whole)
      where
        outer_size : ((suc (i + b) < n) × (m ≡ pos (b + 2))) ⊎ ((suc (i + b) ≡ n) × (m ≡ pos (suc b)))
            → m ≡ pos (suc b)
        outer_size (inl h) = absurd (omega arith)
        outer_size (inr h) = h.1

pub IsScheme-whole : (n : ℕ) (c : ℕ → ℕ) (pay : ℕ → ℤ) (den : ℤ) (rate : ℤ) → IsPart n c pay den n rate
    → IsScheme n c pay den
IsScheme-whole n c pay den rate p = record {
  positive = p.positive;
  least = p.least;
  rises = p.rises;
  under = λ k lt. p.under k (omega arith) lt;
  tight = p.tight;
  all = λ k e. p.all k e refl;
}
