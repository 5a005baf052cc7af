-- A claimant whose claim rises gets no less: otherwise another one would get more, against whom it can't fall. And then
-- the others, who have the same claims as before, divide no more.
use Rattle.std.proofs.Common.{◌≡◌, ◌≢◌, ℕ, ◌<◌, ◌≤◌, List, length, get_or, ℤ, pos, ◌+ℤ◌, ◌-ℤ◌, ◌*ℤ◌, ◌<ℤ◌}
use Rattle.std.proofs.Common.{◌≤ℤ◌, sym, ap, ◌∙◌, subst, inl, inr, arith}
use Rattle.std.proofs.lemmas.Int.{ints, clamps, by_lt_z}
use Rattle.definitions.proofs.Cases.{same_or_other}
use Rattle.definitions.proofs.Members.{sum_below-same, sum_below-add, sum_below-times}
use Rattle.definitions.proofs.Ring.{linear, mul-leℤ, mul_left_commℤ}
use Rattle.definitions.specs.Games.{Allocation, share}
use Rattle.definitions.specs.Sums.{sum_below}
use Rattle.theorems.proofs.Products.{products, sorted_products}
use Rattle.theorems.proofs.Scaled.{above_zero}
use Rattle.talmud.specs.Rule.{IsTalmud}
use Rattle.law_answers.proofs.EachTwoAreAGarment.{one_of, two_are_a_garment, nobody_more}
use Rattle.law_answers.proofs.NoOtherIsConsistent.{garment_up, garment-scaled, garment_over}
use Rattle.law_answers.proofs.SomeGreater.{some_greater}
use Rattle.law_answers.specs.TalmudRule.{IsGarment, claimed}
use Rattle.law_classes.specs.Estates.{ARisenClaim}

-- of two, who claims more than before doesn't get less where the other gets more
risen_pair : (c u d a b e f : ℤ) → c ≤ℤ u → a ≤ℤ c → b ≤ℤ d → e ≤ℤ u → f ≤ℤ d → pos 0 ≤ℤ a → pos 0 ≤ℤ b → pos 0 ≤ℤ e
    → pos 0 ≤ℤ f → IsGarment c d a b → IsGarment u d e f → e <ℤ a → b <ℤ f → ⊥
risen_pair c u d a b e f up ac bd eu fd a0 b0 e0 f0 h k less more = omega (arith, ints, clamps)

-- numbers that are nowhere less, and somewhere more, add to more
pub more_of : (n j : ℕ) (f g : ℕ → ℤ) → j < n → ((k : ℕ) → k < n → g k ≤ℤ f k) → g j <ℤ f j
    → sum_below n g <ℤ sum_below n f
more_of n j f g lt all more =
    let one = (one_of n j (λ k. f k -ℤ g k) (λ k h. let le = all k h in omega (arith, linear, le)) lt).1 in
    let add = sum_below-add n g (λ k. f k -ℤ g k) in
    let same = sum_below-same n (λ k. g k +ℤ (f k -ℤ g k)) f (λ k h. omega (arith, linear)) in
    omega (arith, linear, one, add, same, more)

module _ (estate : ℕ) (claims risen : List ℕ) (x y : Allocation) (i : ℕ) (hi : i < length claims)
    (players : length risen ≡ length claims) (up : get_or claims i 0 ≤ get_or risen i 0)
    (others : (k : ℕ) → k < length claims → k ≢ i → get_or risen k 0 ≡ get_or claims k 0)
    (h : IsTalmud estate claims x) (k : IsTalmud estate risen y) where
  abbrev n : ℕ
  n = length claims

  claim : ℕ → ℤ
  claim j = x.den *ℤ claimed claims y j

  claim_risen : ℕ → ℤ
  claim_risen j = x.den *ℤ claimed risen y j

  f : ℕ → ℤ
  f j = x.den *ℤ share y j

  g : ℕ → ℤ
  g j = y.den *ℤ share x j

  positive_x : pos 0 ≤ℤ x.den
  positive_x = let one = h.positive in omega (arith, linear, one)

  positive_y : pos 0 ≤ℤ y.den
  positive_y = let one = k.positive in omega (arith, linear, one)

  there : (j : ℕ) → j < n → j < length risen
  there j lt = omega (arith, lt, players)

  same : (j : ℕ) → j < n → j ≢ i → claim_risen j ≡ claim j
  unfolding claim claim_risen
  same j lt ne = ap (λ (c : ℕ). x.den *ℤ (y.den *ℤ pos c)) (others j lt ne)

  higher : claim i ≤ℤ claim_risen i
  unfolding claim claim_risen
  higher =
      let inner = mul-leℤ y.den (pos (get_or claims i 0)) (pos (get_or risen i 0)) positive_y
      (omega (arith, linear, up)) in
      mul-leℤ x.den (claimed claims y i) (claimed risen y i) positive_x inner

  sums : sum_below n f ≡ sum_below n g
  unfolding f g
  sums =
      let a = sum_below-times n (share x) y.den ∙ ap (◌*ℤ◌ y.den) h.all
      ∙ mul_left_commℤ y.den x.den (pos estate) in
      let b = sum_below-times n (share y) x.den
      ∙ ap (◌*ℤ◌ x.den) (ap (λ (m : ℕ). sum_below m (share y)) (sym players) ∙ k.all) in
      omega (arith, linear, a, b)

  before : (j l : ℕ) → j < n → l < n → j ≢ l → IsGarment (claim j) (claim l) (g j) (g l)
  unfolding claim g
  before j l hj hl ne =
      garment_over claims x y (share x) j l k.positive (two_are_a_garment estate claims x h j l hj hl ne)

  now : (j l : ℕ) → j < n → l < n → j ≢ l → IsGarment (claim_risen j) (claim_risen l) (f j) (f l)
  unfolding claim_risen f
  now j l hj hl ne =
      garment-scaled x.den (claimed risen y j) (claimed risen y l) (share y j) (share y l)
      (above_zero x.den h.positive) (two_are_a_garment estate risen y k j l (there j hj) (there l hl) ne)

  -- shares lie between nothing and the claims
  g_within : (j : ℕ) → j < n → (pos 0 ≤ℤ g j) × (g j ≤ℤ claim j)
  unfolding claim g
  g_within j lt =
      let bounds = nobody_more estate claims x h j lt in
      let low = mul-leℤ y.den (pos 0) (share x j) positive_y bounds.0 in
      let high = mul-leℤ y.den (share x j) (claimed claims x j) positive_y bounds.1 in
      (omega (products, low), omega (products, high, mul_left_commℤ y.den x.den (pos (get_or claims j 0))))

  f_within : (j : ℕ) → j < n → (pos 0 ≤ℤ f j) × (f j ≤ℤ claim_risen j)
  unfolding claim_risen f
  f_within j lt =
      let bounds = nobody_more estate risen y k j (there j lt) in
      let low = mul-leℤ x.den (pos 0) (share y j) positive_x bounds.0 in
      let high = mul-leℤ x.den (share y j) (claimed risen y j) positive_x bounds.1 in
      (omega (products, low), high)

  -- the one whose claim rises
  no_less : f i <ℤ g i → ⊥
  no_less less = elim (some_greater n f g) [
    | inl found ↦
        let j = found.0 in
        let ne : i ≢ j = λ e. clash j e found.2 in
        let gi = g_within i hi in
        let gj = g_within j found.1 in
        let fi = f_within i hi in
        let fj = f_within j found.1 in
        let unchanged = same j found.1 (λ e. ne (sym e)) in
        risen_pair (claim i) (claim_risen i) (claim j) (g i) (g j) (f i) (f j) higher gi.1 gj.1 fi.1
        (omega (arith, linear, unchanged, fj)) gi.0 gj.0 fi.0 fj.0 (before i j hi found.1 ne)
        (subst (λ (z : ℤ). IsGarment (claim_risen i) z (f i) (f j)) unchanged (now i j hi found.1 ne)) less found.2
    | inr all ↦ (let fewer = more_of n i g f hi all less in omega (arith, linear, fewer, sums))
  ]
    where
      clash : (j : ℕ) → i ≡ j → g j <ℤ f j → ⊥
      clash j e gt = omega (arith, linear, less, gt, ap f e, ap g e)

  -- where another one gets more, nobody gets less
  no_more : (j : ℕ) → j < n → j ≢ i → g j <ℤ f j → ⊥
  no_more j hj ne gt = (let fewer = more_of n j f g hj each gt in omega (arith, linear, fewer, sums))
    where
      apart : (l : ℕ) → l < n → l ≢ i → j ≢ l → g l ≤ℤ f l
      apart l hl other differ =
          let then = subst (λ (z : ℤ). IsGarment (claim j) z (f j) (f l)) (same l hl other)
          (subst (λ (z : ℤ). IsGarment z (claim_risen l) (f j) (f l)) (same j hj ne) (now j l hj hl differ)) in
          by_lt_z (f j +ℤ f l) (g j +ℤ g l)
          (λ less. absurd
          (let up = (garment_up (claim j) (claim l) (f j) (f l) (g j) (g l) then (before j l hj hl differ)
          (omega (arith, linear, less))).0 in
          omega (arith, linear, up, gt)))
          (λ ge. (garment_up (claim j) (claim l) (g j) (g l) (f j) (f l) (before j l hj hl differ) then ge).1)

      each : (l : ℕ) → l < n → g l ≤ℤ f l
      each l hl = elim (same_or_other l i) [
        | inl at ↦ by_lt_z (f l) (g l)
            (λ less. absurd (no_less (omega (arith, linear, less, ap f at, ap g at))))
            (λ le. le)
        | inr other ↦ elim (same_or_other j l) [
          | inl same_one ↦ omega (arith, linear, gt, ap f same_one, ap g same_one)
          | inr differ ↦ apart l hl other differ
        ]
      ]

  own : (share x i *ℤ y.den) ≤ℤ (share y i *ℤ x.den)
  unfolding f g
  own = by_lt_z (f i) (g i) (λ less. absurd (no_less less)) (λ ge. omega (sorted_products, ge))

  theirs : (j : ℕ) → j < n → j ≢ i → (share y j *ℤ x.den) ≤ℤ (share x j *ℤ y.den)
  unfolding f g
  theirs j lt ne = by_lt_z (g j) (f j) (λ more. absurd (no_more j lt ne more)) (λ le. omega (sorted_products, le))

pub a_risen_claim : ARisenClaim
a_risen_claim estate claims risen x y i hi players up others h k = (
  own estate claims risen x y i hi players up others h k,
  theirs estate claims risen x y i hi players up others h k,
)
