-- Sums over the players that pass a test, and how many these are.
--
--   total n a t   the numbers a of the players below n that pass t, added
--   count n t     how many players below n pass t
use Rattle.std.proofs.Common.{◌≡◌, ℕ, zero, suc, ◌<◌, Bool, true, false, ◌&&◌, ◌||◌, not, if◌then◌else◌, ℤ, pos, neg_ℤ}
use Rattle.std.proofs.Common.{◌+ℤ◌, ◌<ℤ◌, ◌≤ℤ◌, refl, sym, ap, ◌∙◌, inl, inr, arith}
use Rattle.std.proofs.lemmas.Int.{ints}
use Rattle.definitions.proofs.Cases.{less_or_last, and_both}
use Rattle.definitions.proofs.Members.{sum_below-same, sum_below-add, sum_below-nonnegative}
use Rattle.definitions.proofs.Ring.{linear}
use Rattle.definitions.specs.Sums.{sum_below}

-- the number of who passes
abbrev pub kept : Bool → ℤ → ℤ
kept b c = if b then c else pos 0

abbrev pub total : ℕ → (ℕ → ℤ) → (ℕ → Bool) → ℤ
total n a t = sum_below n (λ i. kept (t i) (a i))

pub total-same : (n : ℕ) (a : ℕ → ℤ) (t u : ℕ → Bool) → ((i : ℕ) → i < n → t i ≡ u i) → total n a t ≡ total n a u
total-same n a t u same =
    sum_below-same n (λ i. kept (t i) (a i)) (λ i. kept (u i) (a i))
    (λ i lt. ap (λ (b : Bool). kept b (a i)) (same i lt))

-- who passes t passes just one of u and v
pub total-parts : (n : ℕ) (a : ℕ → ℤ) (t u v : ℕ → Bool)
    → ((i : ℕ) → i < n → (t i ≡ (u i || v i)) × ((u i && v i) ≡ false)) → total n a t ≡ total n a u +ℤ total n a v
total-parts n a t u v parts =
    sum_below-same n (λ i. kept (t i) (a i)) (λ i. kept (u i) (a i) +ℤ kept (v i) (a i))
    (λ i lt. by_test (t i) (u i) (v i) (a i) (parts i lt).0 (parts i lt).1)
    ∙ sum_below-add n (λ i. kept (u i) (a i)) (λ i. kept (v i) (a i))
  where
    by_test : (b c d : Bool) (k : ℤ) → b ≡ (c || d) → (c && d) ≡ false → kept b k ≡ kept c k +ℤ kept d k
    by_test b c d k e f = grind (arith, linear)

pub total-negated : (n : ℕ) (a : ℕ → ℤ) (t : ℕ → Bool) → total n (λ i. neg_ℤ (a i)) t ≡ neg_ℤ (total n a t)
total-negated zero a t = refl
total-negated (suc n) a t =
    let last = by_test (t n) (a n) in omega (arith, linear, total-negated n a t, last)
  where
    by_test : (b : Bool) (k : ℤ) → kept b (neg_ℤ k) ≡ neg_ℤ (kept b k)
    by_test b k = grind arith

-- ---- how many

abbrev pub count : ℕ → (ℕ → Bool) → ℤ
count n t = total n (λ i. pos 1) t

count-nonnegative : (n : ℕ) (t : ℕ → Bool) → pos 0 ≤ℤ count n t
count-nonnegative n t = sum_below-nonnegative n (λ i. kept (t i) (pos 1)) (λ i lt. by_test (t i))
  where
    by_test : (b : Bool) → pos 0 ≤ℤ kept b (pos 1)
    by_test b = grind (arith, linear)

pub count-most : (n : ℕ) (t : ℕ → Bool) → count n t ≤ℤ pos n
count-most zero t = omega (arith, linear)
count-most (suc n) t =
    let last = by_test (t n) in omega (arith, ints, count-most n t, last)
  where
    by_test : (b : Bool) → kept b (pos 1) ≤ℤ pos 1
    by_test b = grind (arith, linear)

pub count-some : (n j : ℕ) (t : ℕ → Bool) → j < n → t j ≡ true → pos 1 ≤ℤ count n t
count-some zero j t lt h = absurd (omega arith)
count-some (suc n) j t lt h = elim (less_or_last j n lt) [
  | inl less ↦ (let more = count-some n j t less h in let last = by_test (t n) in omega (arith, linear, more, last))
  | inr same ↦
      let last : kept (t n) (pos 1) ≡ pos 1 = ap (λ (b : Bool). kept b (pos 1)) (ap t (sym same) ∙ h) in
      omega (arith, linear, count-nonnegative n t, last)
]
  where
    by_test : (b : Bool) → pos 0 ≤ℤ kept b (pos 1)
    by_test b = grind (arith, linear)

-- all who pass u pass t, and j passes t alone
pub count-less : (n j : ℕ) (t u : ℕ → Bool) → j < n → t j ≡ true → u j ≡ false
    → ((i : ℕ) → i < n → u i ≡ true → t i ≡ true) → count n u <ℤ count n t
count-less n j t u lt inside outside all =
    let parts = total-parts n (λ i. pos 1) t u (λ i. t i && not (u i)) (λ i h. by_test (t i) (u i) (all i h)) in
    let some = count-some n j (λ i. t i && not (u i)) lt (and_both (t j) (not (u j)) inside (ap not outside)) in
    omega (arith, linear, parts, some)
  where
    by_test : (b c : Bool) → (c ≡ true → b ≡ true) → (b ≡ (c || (b && not c))) × ((c && (b && not c)) ≡ false)
    by_test b c h = grind arith
