-- If the estate is greater and each smaller group is worth what it was, nobody gets less. If one claimant got less,
-- each who gets more would get at most half of the rise more, and have at least half of its claim before; but any two
-- claims cover the estate, so at most two such claimants find room in it, and they don't take up the rise.
use Rattle.std.proofs.Common.{◌≡◌, ◌≢◌, ℕ, ◌<◌, ◌≤◌, List, length, nat_eq, cond, Bool, true, false, refl, ℤ, pos}
use Rattle.std.proofs.Common.{◌+ℤ◌, ◌-ℤ◌}
use Rattle.std.proofs.Common.{◌*ℤ◌, ◌<ℤ◌, ◌≤ℤ◌, sym, ap, ◌∙◌, subst, inl, inr, arith}
use Rattle.std.proofs.lemmas.Int.{ints, clamps, by_lt_z}
use Rattle.definitions.proofs.Cases.{same_or_other, nat_eq-same, nat_eq-other, same_or_less}
use Rattle.definitions.proofs.Members.{sum_below-same, sum_below-add, sum_below-times, sum_over-singleton}
use Rattle.definitions.proofs.Members.{has_player-singleton, has_player-singleton_other}
use Rattle.definitions.proofs.Parts.{part}
use Rattle.definitions.proofs.Ring.{linear, mul-addℤ, mul-leℤ, mul-nonnegativeℤ, mul-zeroℤ, mul_left_commℤ}
use Rattle.definitions.specs.Classes.{bankruptcy_worth}
use Rattle.definitions.specs.Coalitions.{singleton, grand_coalition}
use Rattle.definitions.specs.Games.{Allocation, share}
use Rattle.definitions.specs.Sums.{sum_below}
use Rattle.theorems.proofs.Products.{products, sorted_products}
use Rattle.theorems.proofs.Scaled.{above_zero}
use Rattle.talmud.specs.Rule.{IsTalmud}
use Rattle.law_answers.proofs.EachTwoAreAGarment.{one_of}
use Rattle.law_answers.proofs.NoOtherIsConsistent.{garment-scaled}
use Rattle.law_answers.proofs.SomeGreater.{some_greater}
use Rattle.law_answers.specs.TalmudRule.{IsGarment}
use Rattle.law_classes.proofs.ARisenClaim.{more_of}
use Rattle.law_classes.proofs.CutClaims.{cut_claim, cut_garment, within_cut}
use Rattle.law_classes.proofs.SmallerGroups.{one_leaves, two_cover}
use Rattle.law_classes.specs.Estates.{AGreaterWhole}

-- ---- numbers

-- of two whose claims rise by d, where one gets less, the other gets at most half of d more, had half of its claim, and
-- less than the one
rises_little : (t u d a b e f : ℤ) → pos 0 ≤ℤ d → IsGarment t u a b → IsGarment (t +ℤ d) (u +ℤ d) e f → pos 0 ≤ℤ a
    → a ≤ℤ t → pos 0 ≤ℤ b → b ≤ℤ u → pos 0 ≤ℤ e → e ≤ℤ (t +ℤ d) → pos 0 ≤ℤ f → f ≤ℤ (u +ℤ d) → e <ℤ a → b <ℤ f
    → (((f -ℤ b) +ℤ (f -ℤ b)) ≤ℤ d) × (u ≤ℤ (b +ℤ b)) × (b <ℤ a)
rises_little t u d a b e f d0 h k a0 at b0 bu e0 et f0 fu less more =
    (omega (arith, ints, clamps), omega (arith, ints, clamps), omega (arith, ints, clamps))

-- f with the number of z at k
abbrev replaced : ℕ → (ℕ → ℤ) → (ℕ → ℤ) → ℕ → ℤ
replaced k z f m = cond (nat_eq m k) (z m) (f m)

replaced-other : (k : ℕ) (z f : ℕ → ℤ) (m : ℕ) → m ≢ k → replaced k z f m ≡ f m
replaced-other k z f m ne = rw (nat_eq-other m k ne) refl

replaced-same : (k : ℕ) (z f : ℕ → ℤ) (m : ℕ) → m ≡ k → replaced k z f m ≡ z m
replaced-same k z f m e = rw (e, nat_eq-same k) refl

sum_below-replaced : (n k : ℕ) (z f : ℕ → ℤ) → k < n
    → sum_below n f ≡ sum_below n (replaced k z f) +ℤ (f k -ℤ z k)
sum_below-replaced n k z f lt =
    let sums = sum_below-same n f (λ m. replaced k z f m +ℤ part (λ l. f l -ℤ z l) (singleton k) m)
    (λ m h. elim (same_or_other m k) [ inl same ↦ itself m same | inr ne ↦ another m ne ]) in
    omega (
      arith,
      linear,
      sums,
      sum_below-add n (replaced k z f) (part (λ l. f l -ℤ z l) (singleton k)),
      sum_over-singleton n k (λ l. f l -ℤ z l) lt,
    )
  where
    itself : (m : ℕ) → m ≡ k → f m ≡ replaced k z f m +ℤ part (λ l. f l -ℤ z l) (singleton k) m
    itself m e = rw (e, nat_eq-same k, has_player-singleton k) (omega (arith, linear))

    another : (m : ℕ) → m ≢ k → f m ≡ replaced k z f m +ℤ part (λ l. f l -ℤ z l) (singleton k) m
    another m ne = rw (nat_eq-other m k ne, has_player-singleton_other k m ne) (omega (arith, linear))

-- where one has less and the sum is no less, another has more
gainer : (n j : ℕ) (h g : ℕ → ℤ) → j < n → sum_below n g ≤ℤ sum_below n h → h j <ℤ g j
    → (k : ℕ) × (k < n) × (g k <ℤ h k)
gainer n j h g lt sums less = elim (some_greater n h g) [
  | inl found ↦ found
  | inr none ↦ absurd (let fewer = more_of n j g h lt none less in omega (arith, linear, fewer, sums))
]

-- four of them
four_of : (n i j k l : ℕ) (g : ℕ → ℤ) → ((m : ℕ) → m < n → pos 0 ≤ℤ g m) → i < n → j < n → k < n → l < n
    → j ≢ i → k ≢ i → k ≢ j → l ≢ i → l ≢ j → l ≢ k → (g i +ℤ g j +ℤ g k +ℤ g l) ≤ℤ sum_below n g
four_of n i j k l g low hi hj hk hl ji ki kj li lj lk =
    let z : ℕ → ℤ = λ m. pos 0 in
    let a = replaced i z g in
    let b = replaced j z a in
    let c = replaced k z b in
    let one = sum_below-replaced n i z g hi in
    let two = sum_below-replaced n j z a hj in
    let three = sum_below-replaced n k z b hk in
    let four = (one_of n l c (λ m lt. nothing_or k b m (nothing_or j a m (nothing_or i g m (low m lt)))) hl).1 in
    let at_j = replaced-other i z g j ji in
    let at_k = replaced-other j z a k kj ∙ replaced-other i z g k ki in
    let at_l = replaced-other k z b l lk ∙ replaced-other j z a l lj ∙ replaced-other i z g l li in
    omega (arith, linear, one, two, three, four, at_j, at_k, at_l)
  where
    nothing_or : (k : ℕ) (f : ℕ → ℤ) (m : ℕ) → pos 0 ≤ℤ f m → pos 0 ≤ℤ replaced k (λ m. pos 0) f m
    nothing_or k f m low = either (nat_eq m k)
      where
        either : (b : Bool) → pos 0 ≤ℤ cond b (pos 0) (f m)
        either true = omega (arith, linear)
        either false = low

-- what is left for others, where one and then another is at most half of d more
left_by_one : (gs fs hs fk gk d whole : ℤ) → pos 0 ≤ℤ d → gs ≡ whole → fs ≡ whole +ℤ d → fs ≡ hs +ℤ (fk -ℤ gk)
    → ((fk -ℤ gk) +ℤ (fk -ℤ gk)) ≤ℤ d → gs ≤ℤ hs
left_by_one gs fs hs fk gk d whole d0 a b c e = omega (arith, linear)

left_by_two : (gs fs hs ws fk gk hl fl gl d whole : ℤ) → gs ≡ whole → fs ≡ whole +ℤ d → fs ≡ hs +ℤ (fk -ℤ gk)
    → hs ≡ ws +ℤ (hl -ℤ gl) → hl ≡ fl → ((fk -ℤ gk) +ℤ (fk -ℤ gk)) ≤ℤ d → ((fl -ℤ gl) +ℤ (fl -ℤ gl)) ≤ℤ d → gs ≤ℤ ws
left_by_two gs fs hs ws fk gk hl fl gl d whole a b c e same k l = omega (arith, linear)

-- twice scaled
scaled_add : (p q a b : ℤ) → p *ℤ (q *ℤ (a +ℤ b)) ≡ p *ℤ (q *ℤ a) +ℤ p *ℤ (q *ℤ b)
scaled_add p q a b = ap (◌*ℤ◌ p) (mul-addℤ q a b) ∙ mul-addℤ p (q *ℤ a) (q *ℤ b)

scaled_nonnegative : (p q a : ℤ) → pos 0 ≤ℤ p → pos 0 ≤ℤ q → pos 0 ≤ℤ a → pos 0 ≤ℤ (p *ℤ (q *ℤ a))
scaled_nonnegative p q a hp hq ha = mul-nonnegativeℤ p (q *ℤ a) hp (mul-nonnegativeℤ q a hq ha)

-- ---- two lists of numbers

-- Claims that rise by d each, as their sum does; any two claims cover the whole where they rise. Then no number falls
module _ (n : ℕ) (t f g : ℕ → ℤ) (d whole : ℤ) (d0 : pos 0 ≤ℤ d)
    (before : (i j : ℕ) → i < n → j < n → i ≢ j → IsGarment (t i) (t j) (g i) (g j))
    (now : (i j : ℕ) → i < n → j < n → i ≢ j → IsGarment (t i +ℤ d) (t j +ℤ d) (f i) (f j))
    (g_within : (i : ℕ) → i < n → (pos 0 ≤ℤ g i) × (g i ≤ℤ t i))
    (f_within : (i : ℕ) → i < n → (pos 0 ≤ℤ f i) × (f i ≤ℤ (t i +ℤ d)))
    (all_before : sum_below n g ≡ whole) (all_now : sum_below n f ≡ whole +ℤ d)
    (cover : pos 0 <ℤ d → (i j : ℕ) → i < n → j < n → i ≢ j → whole ≤ℤ (t i +ℤ t j)) where
  -- who gains where j falls
  gains : (j k : ℕ) → j < n → k < n → f j <ℤ g j → g k <ℤ f k
      → (((f k -ℤ g k) +ℤ (f k -ℤ g k)) ≤ℤ d) × (t k ≤ℤ (g k +ℤ g k)) × (g k <ℤ g j)
  gains j k hj hk less more =
      let ne : j ≢ k = λ e. clash k e more in
      let gj = g_within j hj in
      let gk = g_within k hk in
      let fj = f_within j hj in
      let fk = f_within k hk in
      rises_little (t j) (t k) d (g j) (g k) (f j) (f k) d0 (before j k hj hk ne) (now j k hj hk ne) gj.0 gj.1 gk.0 gk.1
      fj.0 fj.1 fk.0 fk.1 less more
    where
      clash : (k : ℕ) → j ≡ k → g k <ℤ f k → ⊥
      clash k e more = omega (arith, linear, less, more, ap f e, ap g e)

  apart : (j k : ℕ) → f j <ℤ g j → g k <ℤ f k → j ≢ k
  apart j k less more e = omega (arith, linear, less, more, ap f e, ap g e)

  -- three can't gain
  no_three : (j k l m : ℕ) → j < n → k < n → l < n → m < n → f j <ℤ g j → g k <ℤ f k → g l <ℤ f l → g m <ℤ f m
      → l ≢ k → m ≢ k → m ≢ l → ⊥
  no_three j k l m hj hk hl hm less one two three lk mk ml =
      let a = gains j k hj hk less one in
      let b = gains j l hj hl less two in
      let c = gains j m hj hm less three in
      let up : pos 0 <ℤ d = omega (arith, linear, one, a.0) in
      let p = cover up l k hl hk lk in
      let q = cover up m k hm hk mk in
      let r = cover up m l hm hl ml in
      let four = four_of n j k l m g (λ i lt. (g_within i lt).0) hj hk hl hm
      (λ e. apart j k less one (sym e)) (λ e. apart j l less two (sym e)) lk
      (λ e. apart j m less three (sym e)) mk ml in
      omega (arith, linear, p, q, r, four, all_before, a.1, a.2, b.1, b.2, c.1, c.2)

  stays : (k : ℕ) (h : ℕ → ℤ) (m : ℕ) → m ≡ k → g m <ℤ replaced k g h m → ⊥
  stays k h m e up = (let same = replaced-same k g h m e in omega (arith, linear, up, same))

  -- where two gain, a third one does
  from_two : (j k l : ℕ) → j < n → k < n → l < n → f j <ℤ g j → g k <ℤ f k → g l <ℤ f l → l ≢ k → ⊥
  from_two j k l hj hk hl less one two lk =
      let other = replaced-other k g f in
      let later = replaced-other l g (replaced k g f) in
      let a = gains j k hj hk less one in
      let b = gains j l hj hl less two in
      let sum_one = sum_below-replaced n k g f hk in
      let sum_two = sum_below-replaced n l g (replaced k g f) hl in
      let at_j = later j (apart j l less two) ∙ other j (apart j k less one) in
      no_third
      (gainer n j (replaced l g (replaced k g f)) g hj
      (left_by_two (sum_below n g) (sum_below n f) (sum_below n (replaced k g f))
      (sum_below n (replaced l g (replaced k g f))) (f k) (g k) (replaced k g f l) (f l) (g l) d whole all_before
      all_now
      sum_one sum_two (other l lk) a.0 b.0) (subst (λ (z : ℤ). z <ℤ g j) (sym at_j) less))
    where
      no_third : ((m : ℕ) × (m < n) × (g m <ℤ replaced l g (replaced k g f) m)) → ⊥
      no_third found =
          let m = found.0 in
          let ml : m ≢ l = λ e. stays l (replaced k g f) m e found.2 in
          let up = subst (λ (z : ℤ). g m <ℤ z) (replaced-other l g (replaced k g f) m ml) found.2 in
          let mk : m ≢ k = λ e. stays k f m e up in
          no_three j k l m hj hk hl found.1 less one two
          (subst (λ (z : ℤ). g m <ℤ z) (replaced-other k g f m mk) up) lk mk ml

  -- where one gains, a second one does
  from_one : (j k : ℕ) → j < n → k < n → f j <ℤ g j → g k <ℤ f k → ⊥
  from_one j k hj hk less one =
      let a = gains j k hj hk less one in
      let at_j = replaced-other k g f j (apart j k less one) in
      no_second
      (gainer n j (replaced k g f) g hj
      (left_by_one (sum_below n g) (sum_below n f) (sum_below n (replaced k g f)) (f k) (g k) d whole d0 all_before
      all_now (sum_below-replaced n k g f hk) a.0) (subst (λ (z : ℤ). z <ℤ g j) (sym at_j) less))
    where
      no_second : ((l : ℕ) × (l < n) × (g l <ℤ replaced k g f l)) → ⊥
      no_second found =
          let l = found.0 in
          let lk : l ≢ k = λ e. stays k f l e found.2 in
          from_two j k l hj hk found.1 less one
          (subst (λ (z : ℤ). g l <ℤ z) (replaced-other k g f l lk) found.2) lk

  pub no_fall : (j : ℕ) → j < n → f j <ℤ g j → ⊥
  no_fall j hj less =
      let first = gainer n j f g hj (omega (arith, linear, all_before, all_now, d0)) less in
      from_one j first.0 hj first.1 less first.2

-- ---- estates

module _ (estate more : ℕ) (claims others : List ℕ) (x y : Allocation) (le : estate ≤ more)
    (players : length others ≡ length claims)
    (same : (s : ℕ) → s < grand_coalition (length claims)
    → bankruptcy_worth estate claims s ≡ bankruptcy_worth more others s)
    (h : IsTalmud estate claims x) (k : IsTalmud more others y) where
  abbrev n : ℕ
  n = length claims

  abbrev scaled : ℤ → ℤ
  scaled z = y.den *ℤ (x.den *ℤ z)

  abbrev rise : ℤ
  rise = pos more -ℤ pos estate

  abbrev t : ℕ → ℤ
  t j = scaled (cut_claim estate claims x h j)

  abbrev f : ℕ → ℤ
  f j = x.den *ℤ share y j

  abbrev g : ℕ → ℤ
  g j = y.den *ℤ share x j

  x_positive : pos 0 ≤ℤ x.den
  x_positive = let one = h.positive in omega (arith, linear, one)

  y_positive : pos 0 ≤ℤ y.den
  y_positive = let one = k.positive in omega (arith, linear, one)

  there : (j : ℕ) → j < n → j < length others
  there j lt = omega (arith, lt, players)

  -- the cut claims rise as the estate does
  risen : (j : ℕ) → j < n → x.den *ℤ (y.den *ℤ cut_claim more others y k j) ≡ t j +ℤ scaled rise
  risen j lt =
      let left = one_leaves estate more claims others players same j lt in
      let sum : cut_claim more others y k j ≡ cut_claim estate claims x h j +ℤ rise = omega (arith, linear, left) in
      mul_left_commℤ x.den y.den (cut_claim more others y k j)
      ∙ ap (λ (z : ℤ). y.den *ℤ (x.den *ℤ z)) sum
      ∙ scaled_add y.den x.den (cut_claim estate claims x h j) rise

  nobody_falls : (j : ℕ) → j < n → f j <ℤ g j → ⊥
  nobody_falls =
      no_fall n t f g (scaled rise) (scaled (pos estate)) d0 before now g_within f_within all_before all_now cover
    where
      d0 : pos 0 ≤ℤ scaled rise
      d0 = scaled_nonnegative y.den x.den rise y_positive x_positive (omega (arith, linear, le))

      before : (i j : ℕ) → i < n → j < n → i ≢ j → IsGarment (t i) (t j) (g i) (g j)
      before i j hi hj ne =
          garment-scaled y.den _ _ _ _ (above_zero y.den k.positive) (cut_garment estate claims x h i j hi hj ne)

      now : (i j : ℕ) → i < n → j < n → i ≢ j → IsGarment (t i +ℤ scaled rise) (t j +ℤ scaled rise) (f i) (f j)
      now i j hi hj ne =
          subst (λ (z : ℤ). IsGarment z (t j +ℤ scaled rise) (f i) (f j)) (risen i hi)
          (subst (λ (z : ℤ). IsGarment (x.den *ℤ (y.den *ℤ cut_claim more others y k i)) z (f i) (f j)) (risen j hj)
          (garment-scaled x.den _ _ _ _ (above_zero x.den h.positive)
          (cut_garment more others y k i j (there i hi) (there j hj) ne)))

      g_within : (i : ℕ) → i < n → (pos 0 ≤ℤ g i) × (g i ≤ℤ t i)
      g_within i lt =
          let b = within_cut estate claims x h i lt in
          let low = mul-leℤ y.den (pos 0) (share x i) y_positive b.0 in
          (omega (products, low), mul-leℤ y.den (share x i) (x.den *ℤ cut_claim estate claims x h i) y_positive b.1)

      f_within : (i : ℕ) → i < n → (pos 0 ≤ℤ f i) × (f i ≤ℤ (t i +ℤ scaled rise))
      f_within i lt =
          let b = within_cut more others y k i (there i lt) in
          let low = mul-leℤ x.den (pos 0) (share y i) x_positive b.0 in
          let high = mul-leℤ x.den (share y i) (y.den *ℤ cut_claim more others y k i) x_positive b.1 in
          (omega (products, low), omega (arith, linear, high, risen i lt))

      all_before : sum_below n g ≡ scaled (pos estate)
      all_before = sum_below-times n (share x) y.den ∙ ap (◌*ℤ◌ y.den) h.all

      all_now : sum_below n f ≡ scaled (pos estate) +ℤ scaled rise
      all_now =
          let sum = sum_below-times n (share y) x.den
          ∙ ap (◌*ℤ◌ x.den) (ap (λ (m : ℕ). sum_below m (share y)) (sym players) ∙ k.all) in
          let whole : pos more ≡ pos estate +ℤ rise = omega (arith, linear) in
          sum ∙ mul_left_commℤ x.den y.den (pos more) ∙ ap (λ (z : ℤ). y.den *ℤ (x.den *ℤ z)) whole
          ∙ scaled_add y.den x.den (pos estate) rise

      cover : pos 0 <ℤ scaled rise → (i j : ℕ) → i < n → j < n → i ≢ j → scaled (pos estate) ≤ℤ (t i +ℤ t j)
      cover up i j hi hj ne =
          let less : estate < more = elim (same_or_less estate more le) [
            | inl same ↦ absurd (none same up)
            | inr lt ↦ lt
          ] in
          let two = two_cover estate more claims others players same less i j hi hj ne in
          let inner =
          mul-leℤ x.den (pos estate) (cut_claim estate claims x h i +ℤ cut_claim estate claims x h j) x_positive
          two in
          let outer = mul-leℤ y.den (x.den *ℤ pos estate)
          (x.den *ℤ (cut_claim estate claims x h i +ℤ cut_claim estate claims x h j)) y_positive inner in
          omega (
            arith,
            linear,
            outer,
            scaled_add y.den x.den (cut_claim estate claims x h i) (cut_claim estate claims x h j),
          )
        where
          none : estate ≡ more → pos 0 <ℤ scaled rise → ⊥
          none e up =
              let zero : rise ≡ pos 0 = omega (arith, linear, e) in
              let nothing = ap (λ (z : ℤ). y.den *ℤ (x.den *ℤ z)) zero ∙ ap (◌*ℤ◌ y.den) (mul-zeroℤ x.den)
              ∙ mul-zeroℤ y.den in
              omega (arith, linear, up, nothing)

pub a_greater_whole : AGreaterWhole
a_greater_whole estate more claims others x y i le players same h k lt =
    by_lt_z (x.den *ℤ share y i) (y.den *ℤ share x i)
    (λ less. absurd (nobody_falls estate more claims others x y le players same h k i lt less))
    (λ ge. omega (sorted_products, ge))
