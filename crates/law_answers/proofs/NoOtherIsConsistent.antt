-- When two get more together, the garment gives neither of them less. But if two divisions of one estate differ, some
-- two claimants get in one of them no less together, and one of the two gets less (Aumann and Maschler 1985).
use Rattle.std.proofs.Common.{◌≡◌, ◌≢◌, ℕ, zero, suc, ◌<◌, ◌≤◌, List, length, get_or, ℤ, pos, ◌+ℤ◌, ◌-ℤ◌, ◌*ℤ◌, ◌<ℤ◌}
use Rattle.std.proofs.Common.{◌≤ℤ◌, sym, ap, subst, ◌∙◌, inl, inr, arith}
use Rattle.std.specs.Int.{int_max}
use Rattle.std.proofs.lemmas.Int.{ints, clamps, by_lt_z}
use Rattle.definitions.proofs.Cases.{int_max-cases}
use Rattle.definitions.proofs.Members.{sum_below-same, sum_below-add, sum_below-times}
use Rattle.definitions.proofs.Ring.{linear, mul-leℤ, mul-subℤ, mul-addℤ, mul-zeroℤ, mul_left_commℤ}
use Rattle.definitions.specs.Sums.{sum_below}
use Rattle.definitions.specs.Games.{Allocation, share}
use Rattle.theorems.proofs.Scaled.{above_zero}
use Rattle.talmud.specs.Rule.{IsTalmud}
use Rattle.law_answers.proofs.SomeGreater.{some_greater}
use Rattle.law_answers.specs.TalmudRule.{unclaimed, IsGarment, claimed, IsConsistent}
use Rattle.law_answers.proofs.EachTwoAreAGarment.{one_of, two_are_a_garment}
use Rattle.theorems.proofs.Products.{products, sorted_products}

-- ---- the garment

-- of more, neither gets less
pub garment_up : (c d a b e f : ℤ) → IsGarment c d a b → IsGarment c d e f → (a +ℤ b) ≤ℤ (e +ℤ f) → (a ≤ℤ e) × (b ≤ℤ f)
garment_up c d a b e f h k le = (omega (arith, ints, clamps), omega (arith, ints, clamps))

unclaimed-scaled : (k s d : ℤ) → pos 0 <ℤ k → unclaimed (k *ℤ s) (k *ℤ d) ≡ k *ℤ unclaimed s d
unclaimed-scaled k s d some = elim (int_max-cases (s -ℤ d) (pos 0)) [
  | inl above ↦
      let le = mul-leℤ k (pos 0) (s -ℤ d) (omega (arith, linear, some)) above.1 in
      max_at_least_zero (k *ℤ s -ℤ k *ℤ d) (omega (products, le))
      ∙ sym (ap (◌*ℤ◌ k) above.0 ∙ mul-subℤ k s d)
  | inr below ↦
      let le = mul-leℤ k (s -ℤ d) (pos 0) (omega (arith, linear, some)) below.1 in
      max_at_most_zero (k *ℤ s -ℤ k *ℤ d) (omega (products, le))
      ∙ sym (ap (◌*ℤ◌ k) below.0 ∙ mul-zeroℤ k)
]
  where
    max_at_least_zero : (z : ℤ) → pos 0 ≤ℤ z → int_max z (pos 0) ≡ z
    max_at_least_zero z h = omega (arith, ints, clamps)

    max_at_most_zero : (z : ℤ) → z ≤ℤ pos 0 → int_max z (pos 0) ≡ pos 0
    max_at_most_zero z h = omega (arith, ints, clamps)

pub garment-scaled : (k c d a b : ℤ) → pos 0 <ℤ k → IsGarment c d a b → IsGarment (k *ℤ c) (k *ℤ d) (k *ℤ a) (k *ℤ b)
garment-scaled k c d a b some h = omega (products, part a d, ap (◌*ℤ◌ k) h, part b c)
  where
    part : (y e : ℤ) → k *ℤ y -ℤ unclaimed (k *ℤ a +ℤ k *ℤ b) (k *ℤ e) ≡ k *ℤ (y -ℤ unclaimed (a +ℤ b) e)
    part y e =
        ap (λ (z : ℤ). k *ℤ y -ℤ unclaimed z (k *ℤ e)) (sym (mul-addℤ k a b))
        ∙ ap (λ (z : ℤ). k *ℤ y -ℤ z) (unclaimed-scaled k (a +ℤ b) e some)
        ∙ sym (mul-subℤ k y (unclaimed (a +ℤ b) e))

-- ---- two lists of numbers

-- numbers that rise and fall by twos, of no lesser sum, are no less
module _ (n : ℕ) (claim f g : ℕ → ℤ)
    (left : (i j : ℕ) → i < n → j < n → i ≢ j → IsGarment (claim i) (claim j) (f i) (f j))
    (right : (i j : ℕ) → i < n → j < n → i ≢ j → IsGarment (claim i) (claim j) (g i) (g j))
    (sums : sum_below n g ≤ℤ sum_below n f) where
  -- nobody has less of the one
  pub no_less : (i : ℕ) → i < n → f i <ℤ g i → ⊥
  no_less i hi lt = elim (some_greater n f g) [
    | inl found ↦
        let j = found.0 in
        let other : i ≢ j = λ same. clash j same found.2 in
        by_lt_z (g i +ℤ g j) (f i +ℤ f j)
        (λ more.
        let up = (garment_up (claim i) (claim j) (g i) (g j) (f i) (f j) (right i j hi found.1 other)
        (left i j hi found.1 other) (omega (arith, linear, more))).0 in
        omega (arith, linear, up, lt))
        (λ less.
        let up = (garment_up (claim i) (claim j) (f i) (f j) (g i) (g j) (left i j hi found.1 other)
        (right i j hi found.1 other) less).1 in
        omega (arith, linear, up, found.2))
    | inr all ↦
        let one = (one_of n i (λ k. g k -ℤ f k) (λ k h. let le = all k h in omega (arith, linear, le)) hi).1 in
        let add = sum_below-add n f (λ k. g k -ℤ f k) in
        let same = sum_below-same n (λ k. f k +ℤ (g k -ℤ f k)) g (λ k h. omega (arith, linear)) in
        omega (arith, linear, one, add, same, sums, lt)
  ]
    where
      clash : (j : ℕ) → i ≡ j → g j <ℤ f j → ⊥
      clash j same gt = omega (arith, linear, lt, gt, ap f same, ap g same)

-- ---- consistent shares

-- a garment of claims over the denominator of x, over that of y
pub garment_over : (claims : List ℕ) (x y : Allocation) (f : ℕ → ℤ) (j l : ℕ) → pos 1 ≤ℤ y.den
    → IsGarment (claimed claims x j) (claimed claims x l) (f j) (f l)
    → IsGarment (x.den *ℤ claimed claims y j) (x.den *ℤ claimed claims y l) (y.den *ℤ f j) (y.den *ℤ f l)
garment_over claims x y f j l some h =
    subst (λ (z : ℤ). IsGarment (x.den *ℤ claimed claims y j) z (y.den *ℤ f j) (y.den *ℤ f l)) (same_claim l)
    (subst (λ (z : ℤ). IsGarment z (y.den *ℤ claimed claims x l) (y.den *ℤ f j) (y.den *ℤ f l)) (same_claim j)
    (garment-scaled y.den (claimed claims x j) (claimed claims x l) (f j) (f l) (above_zero y.den some) h))
  where
    same_claim : (j : ℕ) → y.den *ℤ claimed claims x j ≡ x.den *ℤ claimed claims y j
    same_claim j = mul_left_commℤ y.den x.den _

-- of a greater estate nobody gets less
pub not_less : (estate more : ℕ) (claims : List ℕ) (x y : Allocation) → estate ≤ more → IsConsistent estate claims x
    → IsConsistent more claims y → (i : ℕ) → i < length claims → (share x i *ℤ y.den) ≤ℤ (share y i *ℤ x.den)
not_less estate more claims x y le h k i lt =
    by_lt_z (f i) (g i)
    (λ less. absurd
    (no_less n claim f g
    (λ j l hj hl ne. garment-scaled x.den (claimed claims y j) (claimed claims y l) (share y j) (share y l)
    (above_zero x.den h.positive) (k.each_two j l hj hl ne))
    (λ j l hj hl ne. garment_over claims x y (share x) j l k.positive (h.each_two j l hj hl ne)) sums i lt less))
    (λ ge. omega (sorted_products, ge))
  where
    n : ℕ
    n = length claims

    claim : ℕ → ℤ
    claim j = x.den *ℤ claimed claims y j

    f : ℕ → ℤ
    f j = x.den *ℤ share y j

    g : ℕ → ℤ
    g j = y.den *ℤ share x j

    sums : sum_below n g ≤ℤ sum_below n f
    sums =
        let a = sum_below-times n (share x) y.den ∙ ap (◌*ℤ◌ y.den) h.all
        ∙ mul_left_commℤ y.den x.den (pos estate) in
        let b = sum_below-times n (share y) x.den ∙ ap (◌*ℤ◌ x.den) k.all in
        let inner =
        mul-leℤ y.den (pos estate) (pos more) (omega (arith, linear, k.positive)) (omega (arith, linear, le)) in
        let outer =
        mul-leℤ x.den (y.den *ℤ pos estate) (y.den *ℤ pos more) (omega (arith, linear, h.positive)) inner in
        omega (arith, linear, a, b, outer)

-- ---- the rule

consistent-of : (estate : ℕ) (claims : List ℕ) (x : Allocation) → IsTalmud estate claims x
    → IsConsistent estate claims x
consistent-of estate claims x h = record {
  players = h.players;
  positive = h.positive;
  all = h.all;
  each_two = two_are_a_garment estate claims x h;
}

pub no_other : (estate : ℕ) (claims : List ℕ) (x y : Allocation) → IsTalmud estate claims x
    → IsConsistent estate claims y → (i : ℕ) → i < length claims → share x i *ℤ y.den ≡ share y i *ℤ x.den
no_other estate claims x y h k i lt =
    let c = consistent-of estate claims x h in
    let a = not_less estate estate claims x y (omega arith) c k i lt in
    omega (arith, linear, a, not_less estate estate claims y x (omega arith) k c i lt)

pub more_estate : (estate more : ℕ) (claims : List ℕ) (x y : Allocation) (i : ℕ) → estate ≤ more
    → IsTalmud estate claims x → IsTalmud more claims y → i < length claims
    → (share x i *ℤ y.den) ≤ℤ (share y i *ℤ x.den)
more_estate estate more claims x y i le h k lt =
    not_less estate more claims x y le (consistent-of estate claims x h) (consistent-of more claims y k) i lt

-- ---- what is missing

-- what two lose is divided as what they get
garment-lost : (c d a b : ℤ) → IsGarment c d a b → IsGarment c d (c -ℤ a) (d -ℤ b)
garment-lost c d a b h = omega (arith, ints, clamps)

sum_below-less : (n : ℕ) (f g : ℕ → ℤ) → sum_below n (λ i. f i -ℤ g i) ≡ sum_below n f -ℤ sum_below n g
sum_below-less zero f g = omega (arith, linear)
sum_below-less (suc n) f g = omega (arith, linear, sum_below-less n f g)

pub lost_alike : (estate missing : ℕ) (claims : List ℕ) (x y : Allocation) (i : ℕ)
    → sum_below (length claims) (λ k. pos (get_or claims k 0)) ≡ pos estate +ℤ pos missing
    → IsTalmud estate claims x → IsTalmud missing claims y → i < length claims
    → share y i *ℤ x.den ≡ y.den *ℤ (claimed claims x i -ℤ share x i)
lost_alike estate missing claims x y i total h k lt =
    by_lt_z (f i) (g i)
    (λ less. absurd (no_less n claim f g lost_in_two missing_in_two (omega (arith, linear, sums)) i lt less))
    (λ le.
    by_lt_z (g i) (f i)
    (λ more. absurd (no_less n claim g f missing_in_two lost_in_two (omega (arith, linear, sums)) i lt more))
    (λ ge. omega (sorted_products, le, ge)))
  where
    n : ℕ
    n = length claims

    lost : ℕ → ℤ
    lost j = claimed claims x j -ℤ share x j

    claim : ℕ → ℤ
    claim j = x.den *ℤ claimed claims y j

    f : ℕ → ℤ
    f j = y.den *ℤ lost j

    g : ℕ → ℤ
    g j = x.den *ℤ share y j

    lost_in_two : (j l : ℕ) → j < n → l < n → j ≢ l → IsGarment (claim j) (claim l) (f j) (f l)
    lost_in_two j l hj hl ne =
        garment_over claims x y lost j l k.positive
        (garment-lost (claimed claims x j) (claimed claims x l) (share x j) (share x l)
        (two_are_a_garment estate claims x h j l hj hl ne))

    missing_in_two : (j l : ℕ) → j < n → l < n → j ≢ l → IsGarment (claim j) (claim l) (g j) (g l)
    missing_in_two j l hj hl ne =
        garment-scaled x.den (claimed claims y j) (claimed claims y l) (share y j) (share y l)
        (above_zero x.den h.positive) (two_are_a_garment missing claims y k j l hj hl ne)

    lost_all : sum_below n lost ≡ x.den *ℤ pos missing
    lost_all =
        let claims_all = sum_below-times n (λ j. pos (get_or claims j 0)) x.den in
        omega (products, sum_below-less n (claimed claims x) (share x), claims_all, ap (◌*ℤ◌ x.den) total, h.all)

    sums : sum_below n f ≡ sum_below n g
    sums =
        sum_below-times n lost y.den
        ∙ ap (◌*ℤ◌ y.den) lost_all
        ∙ mul_left_commℤ y.den x.den (pos missing)
        ∙ ap (◌*ℤ◌ x.den) (sym k.all)
        ∙ sym (sum_below-times n (share y) x.den)
