-- Of an estate a claim counts as far as the estate goes: the shares of two claimants are the garment of their cut
-- claims.
use Rattle.std.proofs.Common.{◌≡◌, ◌≢◌, ◌⊎◌, ℕ, ◌<◌, List, length, get_or, ℤ, pos, ◌+ℤ◌, ◌-ℤ◌, ◌*ℤ◌, ◌≤ℤ◌, sym, ap, ◌∙◌}
use Rattle.std.proofs.Common.{inl, inr, arith}
use Rattle.std.proofs.lemmas.Int.{ints, clamps}
use Rattle.definitions.proofs.Cases.{int_max-cases, less_or_greater}
use Rattle.definitions.proofs.Ring.{linear, mul-leℤ}
use Rattle.definitions.specs.Games.{Allocation, share}
use Rattle.talmud.specs.Rule.{IsTalmud}
use Rattle.law_answers.proofs.EachTwoAreAGarment.{den_some, one_of, two_of, two_are_a_garment, nobody_more}
use Rattle.law_answers.specs.TalmudRule.{unclaimed, IsGarment}
use Rattle.law_classes.proofs.SmallerGroups.{cut_to}

-- a claim is at most the estate, or counts as it
cases : (e c : ℤ) → (cut_to e c ≡ c) ⊎ ((cut_to e c ≡ e) × (e ≤ℤ c))
cases e c = elim (int_max-cases (pos 0) (e -ℤ c)) [
  | inl past ↦ inr (omega (arith, linear, past.0), omega (arith, linear, past.1))
  | inr left ↦ inl (omega (arith, linear, left.0))
]

unclaimed-cut : (q e c s : ℤ) → pos 0 ≤ℤ q → s ≤ℤ (q *ℤ e) → unclaimed s (q *ℤ c) ≡ unclaimed s (q *ℤ cut_to e c)
unclaimed-cut q e c s low le = elim (cases e c) [
  | inl same ↦ ap (λ (z : ℤ). unclaimed s (q *ℤ z)) (sym same)
  | inr past ↦
      let more = mul-leℤ q e c low past.1 in
      nothing s (q *ℤ c) (omega (arith, linear, le, more))
      ∙ sym (nothing s (q *ℤ cut_to e c) (omega (arith, linear, le, ap (◌*ℤ◌ q) past.0)))
]
  where
    nothing : (s d : ℤ) → s ≤ℤ d → unclaimed s d ≡ pos 0
    nothing s d h = omega (arith, ints, clamps)

garment-cut : (q e c d a b : ℤ) → pos 0 ≤ℤ q → (a +ℤ b) ≤ℤ (q *ℤ e) → IsGarment (q *ℤ c) (q *ℤ d) a b
    → IsGarment (q *ℤ cut_to e c) (q *ℤ cut_to e d) a b
garment-cut q e c d a b low le h =
    omega (arith, linear, h, unclaimed-cut q e c (a +ℤ b) low le, unclaimed-cut q e d (a +ℤ b) low le)

module _ (estate : ℕ) (claims : List ℕ) (x : Allocation) (h : IsTalmud estate claims x) where
  -- a claim, cut to the estate
  abbrev pub cut_claim : ℕ → ℤ
  cut_claim j = cut_to (pos estate) (pos (get_or claims j 0))

  nonnegative : (k : ℕ) → k < length claims → pos 0 ≤ℤ share x k
  nonnegative k lt = (nobody_more estate claims x h k lt).0

  together : (j l : ℕ) → j < length claims → l < length claims → j ≢ l
      → (share x j +ℤ share x l) ≤ℤ (x.den *ℤ pos estate)
  together j l hj hl ne = elim (less_or_greater j l ne) [
    | inl less ↦ omega (arith, linear, two_of (length claims) j l (share x) nonnegative less hl, h.all)
    | inr more ↦ omega (arith, linear, two_of (length claims) l j (share x) nonnegative more hj, h.all)
  ]

  pub cut_garment : (j l : ℕ) → j < length claims → l < length claims → j ≢ l
      → IsGarment (x.den *ℤ cut_claim j) (x.den *ℤ cut_claim l) (share x j) (share x l)
  cut_garment j l hj hl ne =
      garment-cut x.den (pos estate) (pos (get_or claims j 0)) (pos (get_or claims l 0)) (share x j) (share x l)
      (den_some estate claims x h)
      (together j l hj hl ne) (two_are_a_garment estate claims x h j l hj hl ne)

  pub within_cut : (k : ℕ) → k < length claims → (pos 0 ≤ℤ share x k) × (share x k ≤ℤ (x.den *ℤ cut_claim k))
  within_cut k lt = (
    nonnegative k lt,
    elim (cases (pos estate) (pos (get_or claims k 0))) [
      | inl same ↦ omega (arith, linear, (nobody_more estate claims x h k lt).1, ap (◌*ℤ◌ x.den) same)
      | inr past ↦
          let one = (one_of (length claims) k (share x) nonnegative lt).1 in
          omega (arith, linear, one, h.all, ap (◌*ℤ◌ x.den) past.0)
    ],
  )
