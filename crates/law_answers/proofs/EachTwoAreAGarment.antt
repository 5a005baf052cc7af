-- What the Talmud rule promises: by the one sentence that the part of each is the lesser of half of the cut claim
-- and a bound for all.
use Rattle.std.proofs.Common.{◌≡◌, ◌≢◌, ◌⊎◌, ℕ, zero, suc, ◌<◌, ◌≤◌, Bool, true, false, cond, List, length, get_or, min}
use Rattle.std.proofs.Common.{ℤ, pos, ◌+ℤ◌, ◌-ℤ◌, ◌*ℤ◌, ◌≤ℤ◌, sym, ap, ◌∙◌, inl, inr, arith}
use Rattle.std.specs.Int.{int_min}
use Rattle.std.proofs.lemmas.Int.{ints, clamps}
use Rattle.std.proofs.lemmas.List.{get_or-map}
use Rattle.definitions.proofs.Cases.{less_or_last, less_or_greater}
use Rattle.definitions.proofs.Ring.{linear, mul-leℤ, mul-nonnegativeℤ}
use Rattle.definitions.proofs.Members.{sum_below-nonnegative}
use Rattle.definitions.specs.Sums.{sum_below}
use Rattle.definitions.specs.Games.{Allocation, share}
use Rattle.talmud.specs.Rule.{cut, is_little, IsTalmud}
use Rattle.law_answers.specs.TalmudRule.{unclaimed, IsGarment, claimed}
use Rattle.talmud.proofs.Worths.{Divides}
use Rattle.definitions.proofs.Casts.{pos-le}
use Rattle.theorems.proofs.Products.{products}

-- ---- numbers: y and z are shares, a and d the cut claims, t the bound

-- the part of a share is the lesser of half of the claim and the bound
abbrev IsPart : Bool → ℤ → ℤ → ℤ → Type 0
IsPart little a t y = cond little y (a -ℤ y) +ℤ cond little y (a -ℤ y) ≡ int_min a (t +ℤ t)

between : (little : Bool) (a t y : ℤ) → pos 0 ≤ℤ t → pos 0 ≤ℤ a → IsPart little a t y → (pos 0 ≤ℤ y) × (y ≤ℤ a)
between little a t y h k e = grind (arith, ints, clamps)

rising : (little : Bool) (a d t y z : ℤ) → a ≤ℤ d → IsPart little a t y → IsPart little d t z
    → (y ≤ℤ z) × ((a -ℤ y) ≤ℤ (d -ℤ z))
rising true a d t y z h e f = (omega (arith, ints, clamps), omega (arith, ints, clamps))
rising false a d t y z h e f = (omega (arith, ints, clamps), omega (arith, ints, clamps))

garment : (little : Bool) (a d t y z : ℤ) → pos 0 ≤ℤ t → pos 0 ≤ℤ a → pos 0 ≤ℤ d → IsPart little a t y
    → IsPart little d t z → IsGarment a d y z
garment true a d t y z h k l e f = omega (arith, ints, clamps)
garment false a d t y z h k l e f = omega (arith, ints, clamps)

-- a claim that is cut leaves nothing of what is at most the estate, before and after
leaves : (amount top a c : ℤ) → amount ≤ℤ top → a ≤ℤ c → (a ≡ c) ⊎ (a ≡ top)
    → unclaimed amount a ≡ unclaimed amount c
leaves amount top a c h le k = grind (arith, ints, clamps)

-- ---- two shares are at most all

pub one_of : (n i : ℕ) (f : ℕ → ℤ) → ((k : ℕ) → k < n → pos 0 ≤ℤ f k) → i < n
    → (pos 0 ≤ℤ sum_below n f) × (f i ≤ℤ sum_below n f)
one_of zero i f h lt = absurd (omega arith)
one_of (suc n) i f h lt = elim (less_or_last i n lt) [
  | inl less ↦
      let ih = one_of n i f (λ k l. h k (omega arith)) less in
      let last = h n (omega arith) in
      (omega (arith, linear, ih.0, last), omega (arith, linear, ih.1, last))
  | inr same ↦
      let rest = sum_below-nonnegative n f (λ k l. h k (omega arith)) in
      (omega (arith, linear, rest, h n (omega arith)), omega (arith, linear, rest, ap f same))
]

pub two_of : (n i j : ℕ) (f : ℕ → ℤ) → ((k : ℕ) → k < n → pos 0 ≤ℤ f k) → i < j → j < n
    → (f i +ℤ f j) ≤ℤ sum_below n f
two_of zero i j f h lt below = absurd (omega arith)
two_of (suc n) i j f h lt below = elim (less_or_last j n below) [
  | inl less ↦ omega (arith, linear, two_of n i j f (λ k l. h k (omega arith)) lt less, h n (omega arith))
  | inr same ↦ omega (arith, linear, (one_of n i f (λ k l. h k (omega arith)) (omega arith)).1, ap f same)
]

-- ---- the cut claims

-- the cut claim, over the denominator
abbrev pub cut_claimed : ℕ → List ℕ → Allocation → ℕ → ℤ
cut_claimed estate claims x i = x.den *ℤ pos (cut estate claims i)

cut-is : (estate : ℕ) (claims : List ℕ) (i : ℕ) → i < length claims
    → cut estate claims i ≡ min (get_or claims i 0) estate
cut-is estate claims i lt = get_or-map (λ c. min c estate) claims i 0 0 lt

-- ---- the claims as they are made

module _ (estate : ℕ) (claims : List ℕ) (x : Allocation) (d : Divides estate claims x) where
  -- the cut claim is at most the claim
  pub less : (i : ℕ) → i < length claims → cut_claimed estate claims x i ≤ℤ claimed claims x i
  less i lt =
      mul-leℤ x.den (pos (cut estate claims i)) (pos (get_or claims i 0))
      (let positive = d.positive in omega (arith, linear))
      (pos-le _ _ (rw (cut-is estate claims i lt) (omega arith)))

  -- two get at most the estate together
  at_most : (i j : ℕ) → i < length claims → j < length claims → i ≢ j
      → (share x i +ℤ share x j) ≤ℤ (x.den *ℤ pos estate)
  at_most i j hi hj ne = elim (less_or_greater i j ne) [
    | inl lt ↦ omega (arith, linear, d.all, two_of (length claims) i j (share x) d.gains lt hj)
    | inr gt ↦ omega (arith, linear, d.all, two_of (length claims) j i (share x) d.gains gt hi)
  ]

  whole_or_cut : (i : ℕ) → i < length claims
      → (cut_claimed estate claims x i ≡ claimed claims x i) ⊎ (cut_claimed estate claims x i ≡ x.den *ℤ pos estate)
  whole_or_cut i lt = elim (either (get_or claims i 0) (cut estate claims i) (cut-is estate claims i lt)) [
    | inl whole ↦ inl (ap (λ (k : ℕ). x.den *ℤ pos k) whole)
    | inr cut ↦ inr (ap (λ (k : ℕ). x.den *ℤ pos k) cut)
  ]
    where
      either : (c a : ℕ) → a ≡ min c estate → (a ≡ c) ⊎ (a ≡ estate)
      either c a e = grind arith

  -- the garment of the cut claims is that of the claims
  pub uncut : (i j : ℕ) → i < length claims → j < length claims → i ≢ j
      → IsGarment (cut_claimed estate claims x i) (cut_claimed estate claims x j) (share x i) (share x j)
      → IsGarment (claimed claims x i) (claimed claims x j) (share x i) (share x j)
  uncut i j hi hj ne h =
      let amount = share x i +ℤ share x j in
      let small = at_most i j hi hj ne in
      let first =
      leaves amount (x.den *ℤ pos estate) (cut_claimed estate claims x i) (claimed claims x i) small (less i hi)
      (whole_or_cut i hi) in
      let second =
      leaves amount (x.den *ℤ pos estate) (cut_claimed estate claims x j) (claimed claims x j) small (less j hj)
      (whole_or_cut j hj) in
      ap (λ (z : ℤ). share x i -ℤ z) (sym second) ∙ h ∙ ap (λ (z : ℤ). share x j -ℤ z) first

-- ---- the rule

module _ (estate : ℕ) (claims : List ℕ) (x : Allocation) (h : IsTalmud estate claims x) where
  abbrev bound : ℤ
  bound = h.parts.0

  not_less : pos 0 ≤ℤ bound
  not_less = h.parts.1

  of : (i : ℕ) → i < length claims
      → IsPart (is_little estate claims) (cut_claimed estate claims x i) bound (share x i)
  of i lt = h.parts.2 i lt

  pub den_some : pos 0 ≤ℤ x.den
  den_some = let positive = h.positive in omega (arith, linear)

  some : (i : ℕ) → pos 0 ≤ℤ cut_claimed estate claims x i
  some i = mul-nonnegativeℤ x.den (pos (cut estate claims i)) den_some (omega (arith, ints))

  within : (i : ℕ) → i < length claims → (pos 0 ≤ℤ share x i) × (share x i ≤ℤ cut_claimed estate claims x i)
  within i lt =
      between (is_little estate claims) (cut_claimed estate claims x i) bound (share x i) not_less (some i)
      (of i lt)

  pub divides : Divides estate claims x
  divides = record {
    players = h.players;
    positive = h.positive;
    all = h.all;
    gains = λ i lt. (within i lt).0;
    losses = λ i lt. let low = (within i lt).1 in omega (arith, linear, low);
  }

  pub nobody_more : (i : ℕ) → i < length claims → (pos 0 ≤ℤ share x i) × (share x i ≤ℤ claimed claims x i)
  nobody_more i lt = ((within i lt).0, omega (arith, linear, (within i lt).1, less estate claims x divides i lt))

  -- what is cut from a greater claim is more
  cut_off : (i j : ℕ) → i < length claims → j < length claims → get_or claims i 0 ≤ get_or claims j 0
      → (claimed claims x i -ℤ cut_claimed estate claims x i)
      ≤ℤ (claimed claims x j -ℤ cut_claimed estate claims x j)
  cut_off i j hi hj le =
      let c = get_or claims i 0 in
      let e = get_or claims j 0 in
      let a = cut estate claims i in
      let d = cut estate claims j in
      let small = naturals c e a d le (cut-is estate claims i hi) (cut-is estate claims j hj) in
      omega (products, mul-leℤ x.den (pos c -ℤ pos a) (pos e -ℤ pos d) den_some small)
    where
      naturals : (c e a d : ℕ) → c ≤ e → a ≡ min c estate → d ≡ min e estate → (pos c -ℤ pos a) ≤ℤ (pos e -ℤ pos d)
      naturals c e a d le f g = omega (arith, ints, f, g)

  pub more : (i j : ℕ) → i < length claims → j < length claims → get_or claims i 0 ≤ get_or claims j 0
      → (share x i ≤ℤ share x j) × ((claimed claims x i -ℤ share x i) ≤ℤ (claimed claims x j -ℤ share x j))
  more i j hi hj le =
      let low = mul-leℤ x.den (pos (cut estate claims i)) (pos (cut estate claims j)) den_some
      (pos-le _ _ (rw (cut-is estate claims i hi, cut-is estate claims j hj) (omega (arith, le)))) in
      let both =
      rising (is_little estate claims) (cut_claimed estate claims x i) (cut_claimed estate claims x j) bound
      (share x i) (share x j) low (of i hi) (of j hj) in
      (both.0, omega (arith, linear, both.1, cut_off i j hi hj le))

  pub two_are_a_garment : (i j : ℕ) → i < length claims → j < length claims → i ≢ j
      → IsGarment (claimed claims x i) (claimed claims x j) (share x i) (share x j)
  two_are_a_garment i j hi hj ne =
      uncut estate claims x divides i j hi hj ne
      (garment (is_little estate claims) (cut_claimed estate claims x i) (cut_claimed estate claims x j) bound
      (share x i) (share x j) not_less (some i) (some j) (of i hi) (of j hj))
