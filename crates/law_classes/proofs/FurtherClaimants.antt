-- If others claim as well, those who were there divide no more among them, in twos as before.
use Rattle.std.proofs.Common.{◌≡◌, ◌≢◌, ℕ, ◌+◌, ◌<◌, List, length, ◌++◌, ℤ, pos, ◌*ℤ◌, ◌≤ℤ◌, sym, ap, ◌∙◌}
use Rattle.std.proofs.Common.{subst, arith, length-append}
use Rattle.std.proofs.lemmas.Int.{by_lt_z}
use Rattle.std.proofs.lemmas.List.{get_or_append_left}
use Rattle.definitions.proofs.Members.{sum_below-split, sum_below-nonnegative, sum_below-times}
use Rattle.definitions.proofs.Ring.{linear, mul-leℤ, mul_left_commℤ}
use Rattle.definitions.specs.Games.{Allocation, share}
use Rattle.definitions.specs.Sums.{sum_below}
use Rattle.theorems.proofs.Products.{sorted_products}
use Rattle.theorems.proofs.Scaled.{above_zero}
use Rattle.talmud.specs.Rule.{IsTalmud}
use Rattle.law_answers.proofs.EachTwoAreAGarment.{two_are_a_garment, nobody_more}
use Rattle.law_answers.proofs.NoOtherIsConsistent.{garment-scaled, garment_over, no_less}
use Rattle.law_answers.specs.TalmudRule.{IsGarment, claimed}
use Rattle.law_classes.specs.Estates.{FurtherClaimantsGiveNobodyMore}

module _ (estate : ℕ) (claims further : List ℕ) (x y : Allocation) (h : IsTalmud estate claims x)
    (k : IsTalmud estate (claims ++ further) y) where
  abbrev n : ℕ
  n = length claims

  abbrev claim : ℕ → ℤ
  claim j = x.den *ℤ claimed claims y j

  abbrev f : ℕ → ℤ
  f j = x.den *ℤ share y j

  abbrev g : ℕ → ℤ
  g j = y.den *ℤ share x j

  more : length (claims ++ further) ≡ n + length further
  more = length-append claims further

  here : (j : ℕ) → j < n → j < length (claims ++ further)
  here j lt = omega (arith, lt, more)

  same : (j : ℕ) → j < n → claimed (claims ++ further) y j ≡ claimed claims y j
  same j lt = ap (λ (c : ℕ). y.den *ℤ pos c) (get_or_append_left claims further 0 j lt)

  -- those who were there get no more than the estate
  sums : sum_below n f ≤ℤ sum_below n g
  sums =
      let a = sum_below-times n (share x) y.den ∙ ap (◌*ℤ◌ y.den) h.all
      ∙ mul_left_commℤ y.den x.den (pos estate) in
      let b = sum_below-times n (share y) x.den in
      let parts = sym (sum_below-split n (length further) (share y))
      ∙ ap (λ (m : ℕ). sum_below m (share y)) (sym more) ∙ k.all in
      let rest = sum_below-nonnegative (length further) (λ j. share y (n + j))
      (λ j lt. (nobody_more estate (claims ++ further) y k (n + j) (omega (arith, lt, more))).0) in
      let inner = mul-leℤ x.den (sum_below n (share y)) (y.den *ℤ pos estate)
      (let one = h.positive in omega (arith, linear, one)) (omega (arith, linear, parts, rest)) in
      omega (arith, linear, a, b, inner)

  left : (j l : ℕ) → j < n → l < n → j ≢ l → IsGarment (claim j) (claim l) (g j) (g l)
  left j l hj hl ne =
      garment_over claims x y (share x) j l k.positive (two_are_a_garment estate claims x h j l hj hl ne)

  right : (j l : ℕ) → j < n → l < n → j ≢ l → IsGarment (claim j) (claim l) (f j) (f l)
  right j l hj hl ne =
      garment-scaled x.den (claimed claims y j) (claimed claims y l) (share y j) (share y l)
      (above_zero x.den h.positive)
      (subst (λ (z : ℤ). IsGarment z (claimed claims y l) (share y j) (share y l)) (same j hj)
      (subst (λ (z : ℤ). IsGarment (claimed (claims ++ further) y j) z (share y j) (share y l)) (same l hl)
      (two_are_a_garment estate (claims ++ further) y k j l (here j hj) (here l hl) ne)))

  no_more : (i : ℕ) → i < n → (share y i *ℤ x.den) ≤ℤ (share x i *ℤ y.den)
  no_more i lt =
      by_lt_z (g i) (f i)
      (λ less. absurd (no_less n claim g f left right sums i lt less))
      (λ ge. omega (sorted_products, ge))

pub further_claimants_give_nobody_more : FurtherClaimantsGiveNobodyMore
further_claimants_give_nobody_more estate claims further x y i h k lt = no_more estate claims further x y h k i lt
