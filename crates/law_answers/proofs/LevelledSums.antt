-- Sums that compare term by term; and numbers that are the same for all who pass a test, and known for the others:
-- their sum settles them.
use Rattle.std.proofs.Common.{◌≡◌, ℕ, zero, suc, ◌<◌, Bool, true, false, ℤ, ◌<ℤ◌, ◌≤ℤ◌, sym, ap, inl, inr, arith}
use Rattle.std.proofs.lemmas.Int.{by_lt_z}
use Rattle.definitions.proofs.Cases.{less_or_last, true_or_false}
use Rattle.definitions.proofs.Parts.{sum_below-le}
use Rattle.definitions.proofs.Ring.{linear}
use Rattle.definitions.specs.Sums.{sum_below}

-- no term is more, and one is less
pub sum_below-less : (n i : ℕ) (a b : ℕ → ℤ) → ((j : ℕ) → j < n → a j ≤ℤ b j) → i < n → a i <ℤ b i
    → sum_below n a <ℤ sum_below n b
sum_below-less zero i a b le h lt = absurd (omega arith)
sum_below-less (suc n) i a b le h lt = elim (less_or_last i n h) [
  | inl less ↦ omega (arith, linear, sum_below-less n i a b (λ j k. le j (omega arith)) less lt, le n (omega arith))
  | inr same ↦ omega (arith, linear, sum_below-le n a b (λ j k. le j (omega arith)), lt, ap a same, ap b same)
]

-- one number for all who pass
abbrev pub IsLevelled : ℕ → (ℕ → Bool) → (ℕ → ℤ) → Type 0
IsLevelled n test a = (i j : ℕ) → i < n → j < n → test i ≡ true → test j ≡ true → a i ≡ a j

no_lesser : (n : ℕ) (test : ℕ → Bool) (a b : ℕ → ℤ) → ((i : ℕ) → i < n → test i ≡ false → a i ≡ b i)
    → IsLevelled n test a → IsLevelled n test b → sum_below n a ≡ sum_below n b → (i : ℕ) → i < n → test i ≡ true
    → a i <ℤ b i → ⊥
no_lesser n test a b out la lb sums i lt has less =
    let below = sum_below-less n i a b (λ j h. elim (true_or_false (test j)) [
      | inl inside ↦ omega (arith, linear, la i j lt h has inside, lb i j lt h has inside, less)
      | inr outside ↦ omega (arith, linear, out j h outside)
    ]) lt less in
    omega (arith, linear, below, sums)

pub all_same : (n : ℕ) (test : ℕ → Bool) (a b : ℕ → ℤ) → ((i : ℕ) → i < n → test i ≡ false → a i ≡ b i)
    → IsLevelled n test a → IsLevelled n test b → sum_below n a ≡ sum_below n b → (i : ℕ) → i < n → a i ≡ b i
all_same n test a b out la lb sums i lt = elim (true_or_false (test i)) [
  | inl inside ↦
      by_lt_z (a i) (b i)
      (λ less. absurd (no_lesser n test a b out la lb sums i lt inside less))
      (λ le.
      by_lt_z (b i) (a i)
      (λ more. absurd (no_lesser n test b a (λ j h o. sym (out j h o)) lb la (sym sums) i lt inside more))
      (λ ge. omega (arith, linear, le, ge)))
  | inr outside ↦ out i lt outside
]
