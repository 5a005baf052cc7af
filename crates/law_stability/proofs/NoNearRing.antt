-- The opposites of the coalitions of a near ring are one, for the negated numbers. A coalition with the fewest players
-- of the part inside or outside is in the one or the other; so if the part's sum is nothing there is none.
use Rattle.std.proofs.Common.{◌≡◌, ℕ, ◌^◌, ◌<◌, Bool, true, false, ◌&&◌, ◌||◌, not, ℤ, pos, neg_ℤ, ◌≤ℤ◌, sym, ap, ◌∙◌}
use Rattle.std.proofs.Common.{inl, inr, arith}
use Rattle.std.proofs.lemmas.Bool.{false≢true}
use Rattle.definitions.proofs.Cases.{true_or_false, or_left, or_right, or_other}
use Rattle.definitions.proofs.Members.{has_player-complement}
use Rattle.definitions.proofs.Ring.{linear}
use Rattle.definitions.specs.Coalitions.{has_player}
use Rattle.theorems.proofs.Transfers.{some_greatest}
use Rattle.law_answers.proofs.Complements.{complement-within}
use Rattle.law_stability.proofs.NearRings.{inside, outside, IsNearRing, impossible}
use Rattle.law_stability.proofs.SumsByTest.{total, total-same, total-parts, total-negated, count}
use Rattle.law_stability.proofs.Unions.{opposite, opposite-twice, opposites-union, opposites-common}

module _ (n : ℕ) (p : ℕ → Bool) (s : ℕ) (lt : s < 2 ^ n) where
  inside-opposite : (i : ℕ) → i < n → inside p (opposite n s) i ≡ outside p s i
  inside-opposite i h = ap (λ (b : Bool). p i && b) (has_player-complement n s i lt h)

  outside-opposite : (i : ℕ) → i < n → outside p (opposite n s) i ≡ inside p s i
  outside-opposite i h =
      ap (λ (b : Bool). p i && not b) (has_player-complement n s i lt h) ∙ by_test (p i) (has_player s i)
    where
      by_test : (q b : Bool) → (q && not (not b)) ≡ (q && b)
      by_test q b = grind arith

opposites : (n : ℕ) (p : ℕ → Bool) (z : ℕ → ℤ) (d : ℕ → Bool) → IsNearRing n p z d → total n z p ≡ pos 0
    → IsNearRing n p (λ i. neg_ℤ (z i)) (λ s. d (opposite n s))
opposites n p z d nr nothing = record {
  splits = λ s hs ds.
      let found = nr.splits (opposite n s) (complement-within n s) ds in (
        (found.1.0, found.1.1, sym (outside-opposite n p s hs found.1.0 found.1.1) ∙ found.1.2),
        (found.0.0, found.0.1, sym (inside-opposite n p s hs found.0.0 found.0.1) ∙ found.0.2),
      );
  ring = λ a b ha hb da db common_player left_out.
      let both =
      nr.ring (opposite n a) (opposite n b) (complement-within n a) (complement-within n b) da db (
        left_out.0,
        left_out.1,
        swapped (inside-opposite n p a ha left_out.0 left_out.1)
            (inside-opposite n p b hb left_out.0 left_out.1) left_out.2,
      ) (
        common_player.0,
        common_player.1,
        swapped (outside-opposite n p a ha common_player.0 common_player.1)
            (outside-opposite n p b hb common_player.0 common_player.1) common_player.2,
      ) in (
        ap d (sym (opposites-common n a b ha hb)) ∙ both.1,
        ap d (sym (opposites-union n a b ha hb)) ∙ both.0,
      );
  apart = λ s i j hs ds hi hj in_s out_s.
      let e = nr.apart (opposite n s) j i (complement-within n s) ds hj hi (inside-opposite n p s hs j hj ∙ out_s)
      (outside-opposite n p s hs i hi ∙ in_s) in (
        opposite n e.0,
        complement-within n e.0,
        ap d (opposite-twice n e.0 e.1) ∙ e.2,
        has_player-complement n e.0 j e.1 hj ∙ ap not e.4,
        has_player-complement n e.0 i e.1 hi ∙ ap not e.3,
      );
  positive = λ s hs ds.
      let up = nr.positive (opposite n s) (complement-within n s) ds in
      let same = total-same n z (inside p (opposite n s)) (outside p s) (inside-opposite n p s hs) in
      let parts = total-parts n z p (inside p s) (outside p s) (λ i lt. by_test (p i) (has_player s i)) in
      omega (arith, linear, up, same, parts, nothing, total-negated n z (inside p s));
}
  where
    swapped : {a b c e : Bool} → a ≡ c → b ≡ e → (c && e) ≡ true → (a && b) ≡ true
    swapped {a} {b} {c} {e} f g h = ap (λ (k : Bool). k && b) f ∙ ap (λ (k : Bool). c && k) g ∙ h

    by_test : (q b : Bool) → (q ≡ ((q && b) || (q && not b))) × (((q && b) && (q && not b)) ≡ false)
    by_test q b = grind arith

-- so if the part's sum is nothing there is none
pub no_near_ring : (n : ℕ) (p : ℕ → Bool) (z : ℕ → ℤ) (d : ℕ → Bool) → IsNearRing n p z d → total n z p ≡ pos 0
    → (s : ℕ) → s < 2 ^ n → d s ≡ true → ⊥
no_near_ring n p z d nr nothing s hs ds = elim (some_greatest either fewness (2 ^ n)) [
  | inl none ↦ false≢true (sym (none s hs) ∙ or_left (d s) (d (opposite n s)) ds)
  | inr found ↦ fewest found.0 found.1.0.0 found.1.0.1.0 found.1.0.1.1 found.1.0.2 found.1.1
]
  where
    either : ℕ → Bool
    either r = d r || d (opposite n r)

    fewness : ℕ → ℤ
    fewness r = neg_ℤ (count n (inside p r))

    counted : (r : ℕ) → r < 2 ^ n → count n (inside p (opposite n r)) ≡ count n (outside p r)
    counted r hr = total-same n (λ i. pos 1) (inside p (opposite n r)) (outside p r) (inside-opposite n p r hr)

    fewest : (m : ℤ) (t : ℕ) → t < 2 ^ n → either t ≡ true → m ≡ fewness t
        → ((r : ℕ) → (r < 2 ^ n) × (either r ≡ true) → fewness r ≤ℤ m) → ⊥
    fewest m t ht dt is least = elim (true_or_false (d t)) [
      | inl first ↦
          impossible n p z d nr nothing t ht first
          (λ r hr dr.
          let two =
          least (opposite n r) (
            complement-within n r,
            or_right (d (opposite n r)) (d (opposite n (opposite n r))) (ap d (opposite-twice n r hr) ∙ dr),
          ) in (
            omega (arith, linear, least r (hr, or_left (d r) (d (opposite n r)) dr), is),
            omega (arith, linear, two, is, counted r hr),
          ))
      | inr out ↦
          impossible n p (λ i. neg_ℤ (z i)) (λ r. d (opposite n r)) (opposites n p z d nr nothing)
          (total-negated n z p ∙ ap neg_ℤ nothing) t ht (or_other (d t) (d (opposite n t)) out dt)
          (λ r hr dr.
          let two =
          least (opposite n r) (
            complement-within n r,
            or_left (d (opposite n r)) (d (opposite n (opposite n r))) dr,
          ) in (
            omega (arith, linear, least r (hr, or_right (d r) (d (opposite n r)) dr), is),
            omega (arith, linear, two, is, counted r hr),
          ))
    ]
