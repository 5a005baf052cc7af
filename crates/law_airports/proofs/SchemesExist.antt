-- Littlechild's scheme has payments for any costs at any number of places: from block to block by the least term.
use Rattle.std.proofs.Common.{◌≡◌, ℕ, zero, suc, ◌+◌, ◌-◌, ◌<◌, ◌≤◌, cond, nat_lt, ℤ, pos, ◌-ℤ◌, ◌*ℤ◌, refl, subst, inl}
use Rattle.std.proofs.Common.{inr, arith}
use Rattle.std.proofs.lemmas.Int.{by_lt_z}
use Rattle.definitions.proofs.Cases.{below_or_above, nat_lt-less, nat_lt-past}
use Rattle.definitions.specs.Sums.{sum_below}
use Rattle.airport_scheme.specs.Scheme.{IsScheme, size_of, IsTerm, IsLeastTerm}
use Rattle.airport_scheme.proofs.Steps.{IsPart, IsNext, IsPart-start, IsPart-next, IsScheme-whole}
use Rattle.airport_scheme.proofs.Runs.{IsBest, IsBest-start, IsBest-kept, IsBest-better, IsLeastTerm-whole, next_of}

module _ (n : ℕ) (c : ℕ → ℕ) where
  -- ---- the least term

  module _ (den paid : ℤ) (i : ℕ) (some : i < n) where
    abbrev rate_of : ℕ → ℤ
    rate_of l = den *ℤ pos (c l) -ℤ paid

    term : (l : ℕ) → i ≤ l → l < n → IsTerm n c den paid i l (pos (size_of n i l)) (rate_of l)
    term l le lt = record { from = le; within = lt; size = refl; rate = refl }

    best_up_to : (d : ℕ) → i + d ≤ n → (best : ℕ) × (m : ℤ) × (r : ℤ) × IsBest n c den paid i (i + d) best m r
    best_up_to zero le =
        let last = n - 1 in
        let here : i ≡ i + 0 = omega arith in (
          last,
          pos (size_of n i last),
          rate_of last,
          subst (λ (j : ℕ). IsBest n c den paid i j last (pos (size_of n i last)) (rate_of last)) here
              (IsBest-start n c den paid i last (pos (size_of n i last)) (rate_of last) (omega arith)
              (term last (omega arith) (omega arith))),
        )
    best_up_to (suc d) le =
        let before = best_up_to d (omega arith) in
        let best = before.0 in
        let m = before.1 in
        let r = before.2 in
        let l = i + d in
        let k = pos (size_of n i l) in
        let s = rate_of l in
        let t = term l (omega arith) (omega arith) in
        let step : l + 1 ≡ i + suc d = omega arith in
        by_lt_z (s *ℤ m) (r *ℤ k)
        (λ lt. (
          l,
          k,
          s,
          subst (λ (j : ℕ). IsBest n c den paid i j l k s) step
              (IsBest-better n c den paid i l best m r k s before.3 t lt),
        ))
        (λ ge. (
          best,
          m,
          r,
          subst (λ (j : ℕ). IsBest n c den paid i j best m r) step
              (IsBest-kept n c den paid i l best m r k s before.3 t ge),
        ))

    least_term : (l : ℕ) × (m : ℤ) × (r : ℤ) × IsLeastTerm n c den paid i l m r
    least_term =
        let all = best_up_to (n - i) (omega arith) in (
          all.0,
          all.1,
          all.2,
          IsLeastTerm-whole n c den paid i (i + (n - i)) all.0 all.1 all.2 (omega arith) all.3,
        )

  -- ---- the run

  -- the payments with those of the next block
  grown : (ℕ → ℤ) → ℕ → ℤ → ℤ → ℕ → ℤ
  grown pay i m r j = cond (nat_lt j i) (m *ℤ pay j) r

  grown-before : (pay : ℕ → ℤ) (i : ℕ) (m r : ℤ) (j : ℕ) → j < i → grown pay i m r j ≡ m *ℤ pay j
  unfolding grown
  grown-before pay i m r j lt = rw (nat_lt-less j i lt) refl

  grown-block : (pay : ℕ → ℤ) (i : ℕ) (m r : ℤ) (d : ℕ) → grown pay i m r (i + d) ≡ r
  unfolding grown
  grown-block pay i m r d = rw (nat_lt-past (i + d) i (omega arith)) refl

  next_exists : (pay : ℕ → ℤ) (den : ℤ) (i : ℕ) → i < n
      → (b : ℕ) × (m : ℤ) × (r : ℤ) × IsNext n c pay den i b m r
  next_exists pay den i lt =
      let paid = sum_below i pay in
      let least = least_term den paid i lt in
      let place : least.0 ≡ i + (least.0 - i) = omega (arith, least.3.term.from) in (
        least.0 - i,
        least.1,
        least.2,
        next_of n c pay den paid i (least.0 - i) least.1 least.2 refl
            (subst (λ (l : ℕ). IsLeastTerm n c den paid i l least.1 least.2) place least.3),
      )

  run : (fuel : ℕ) (pay : ℕ → ℤ) (den : ℤ) (i : ℕ) (rate : ℤ) → i ≤ n → n ≤ i + fuel → IsPart n c pay den i rate
      → (more : ℕ → ℤ) × (q : ℤ) × IsScheme n c more q
  run zero pay den i rate le enough part =
      let all : i ≡ n = omega arith in
      (pay, den, IsScheme-whole n c pay den rate (subst (λ (j : ℕ). IsPart n c pay den j rate) all part))
  run (suc fuel) pay den i rate le enough part = elim (below_or_above i n) [
    | inl lt ↦
        let next = next_exists pay den i lt in
        let b = next.0 in
        let m = next.1 in
        let r = next.2 in
        let within = next.3.within in
        run fuel (grown pay i m r) (den *ℤ m) (i + suc b) r within (omega arith)
        (IsPart-next n c pay den i b rate m r (grown pay i m r) part next.3 (grown-before pay i m r)
        (λ d h. grown-block pay i m r d))
    | inr ge ↦
        let all : i ≡ n = omega arith in
        (pay, den, IsScheme-whole n c pay den rate (subst (λ (j : ℕ). IsPart n c pay den j rate) all part))
  ]

  pub scheme_exists : 1 ≤ n → (pay : ℕ → ℤ) × (den : ℤ) × IsScheme n c pay den
  scheme_exists some =
      run n (λ k. pos 0) (pos 1) 0 (pos 0) (omega arith) (omega arith) (IsPart-start n c (λ k. pos 0) some)
