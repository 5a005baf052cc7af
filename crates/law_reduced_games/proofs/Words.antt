-- Words: a word says of each position whether it has it. An exchange of two positions of one value makes words of
-- words; and if two words have as many positions of each value, some exchanges make the one of the other.
use Rattle.std.proofs.Common.{◌≡◌, ◌⊎◌, ℕ, zero, suc, ◌^◌, ◌<◌, Bool, true, false, cond, not, ◌||◌, ◌&&◌, unsigned_abs}
use Rattle.std.proofs.Common.{ℤ, pos, ◌<ℤ◌, ◌≤ℤ◌, refl, sym, ap, ◌∙◌, inl, inr, arith}
use Rattle.std.proofs.lemmas.Int.{ints}
use Rattle.std.specs.Ordering.{int_eq}
use Rattle.definitions.proofs.Ring.{linear}
use Rattle.definitions.proofs.Cases.{same_or_other}
use Rattle.definitions.proofs.Members.{sum_below-same, sum_below-nonnegative}
use Rattle.definitions.proofs.Splits.{passes_below}
use Rattle.theorems.proofs.Examples.{from_int_eq}
use Rattle.definitions.specs.Sums.{sum_below}
use Rattle.definitions.specs.Coalitions.{has_player}
use Rattle.law_duality.proofs.Farkas.{one_or_none-low}
use Rattle.law_answers.specs.Renumbering.{exchanged, renumbered_coalition}
use Rattle.law_answers.proofs.Gathered.{sum_below-renumbered}
use Rattle.law_answers.proofs.ExchangeChangesNothing.{exchanged_first, exchanged_second, exchanged_other}
use Rattle.law_answers.proofs.ExchangeChangesNothing.{exchange_is_renumbering}
use Rattle.law_answers.proofs.RenumberedCoalitions.{coalition_where-within, coalition_where-has, same_below, was_back}
use Rattle.law_answers.proofs.LevelledSums.{sum_below-less}
use Rattle.law_answers.proofs.Numbers.{to_int_eq}
use Rattle.law_answers.proofs.SomeGreater.{some_greater}

-- ---- tests

pub all_pass : (n : ℕ) (test : ℕ → Bool) → ((t : ℕ) → t < n → test t ≡ true) → passes_below n test ≡ true
all_pass zero test h = refl
all_pass (suc n) test h = rw (all_pass n test (λ t lt. h t (omega arith))) (h n (omega arith))

-- ---- L positions, with values

module _ (L : ℕ) (u : ℕ → ℤ) where
  -- of how many positions of value v the test holds
  abbrev pub count_of : ℤ → (ℕ → Bool) → ℤ
  count_of v test = sum_below L (λ l. cond (int_eq (u l) v) (cond (test l) (pos 1) (pos 0)) (pos 0))

  abbrev pub weight_of : ℤ → ℕ → ℤ
  weight_of v r = count_of v (has_player r)

  -- two positions exchanged
  abbrev pub swap : ℕ → ℕ → ℕ → ℕ
  swap a b r = renumbered_coalition L (exchanged a b) r

  pub swap_within : (a b r : ℕ) → swap a b r < 2 ^ L
  swap_within a b r = coalition_where-within L (λ l. has_player r (exchanged a b l))

  pub swap_has : (a b r l : ℕ) → l < L → has_player (swap a b r) l ≡ has_player r (exchanged a b l)
  swap_has a b r l lt = coalition_where-has L (λ l. has_player r (exchanged a b l)) l lt

  pub swap_twice : (a b r : ℕ) → a < L → b < L → r < 2 ^ L → swap a b (swap a b r) ≡ r
  swap_twice a b r ha hb within =
      was_back L (exchanged a b) (exchanged a b) (exchange_is_renumbering L a b ha hb) r within

  pub value_exchanged : (a b l : ℕ) → u a ≡ u b → u (exchanged a b l) ≡ u l
  value_exchanged a b l e = elim (same_or_other l a) [
    | inl first ↦ ap (λ k. u (exchanged a b k)) first ∙ ap u (exchanged_first a b) ∙ sym e ∙ ap u (sym first)
    | inr other ↦ elim (same_or_other l b) [
      | inl second ↦ ap (λ k. u (exchanged a b k)) second ∙ ap u (exchanged_second a b) ∙ e ∙ ap u (sym second)
      | inr neither ↦ ap u (exchanged_other a b l other neither)
    ]
  ]

  pub swap_weight : (a b r : ℕ) (v : ℤ) → a < L → b < L → u a ≡ u b → weight_of v (swap a b r) ≡ weight_of v r
  swap_weight a b r v ha hb e =
      let f : ℕ → ℤ = λ l. cond (int_eq (u l) v) (cond (has_player r l) (pos 1) (pos 0)) (pos 0) in
      sum_below-same L (λ l. cond (int_eq (u l) v) (cond (has_player (swap a b r) l) (pos 1) (pos 0)) (pos 0))
      (λ l. f (exchanged a b l))
      (λ l lt.
      ap (λ (t : Bool). cond (int_eq (u l) v) (cond t (pos 1) (pos 0)) (pos 0)) (swap_has a b r l lt)
      ∙ ap (λ z. cond (int_eq z v) (cond (has_player r (exchanged a b l)) (pos 1) (pos 0)) (pos 0))
      (sym (value_exchanged a b l e)))
      ∙ sum_below-renumbered L (exchanged a b) (exchanged a b) f (exchange_is_renumbering L a b ha hb)

  -- ---- words that are alike

  -- as many positions of each value
  abbrev pub AreAlike : ℕ → ℕ → Type 0
  AreAlike r s = (v : ℤ) → weight_of v r ≡ weight_of v s

  abbrev differ : ℕ → ℕ → ℕ → Bool
  differ r s l = (has_player r l && not (has_player s l)) || (not (has_player r l) && has_player s l)

  abbrev distance : ℕ → ℕ → ℤ
  distance r s = sum_below L (λ l. cond (differ r s l) (pos 1) (pos 0))

  -- a position of r and one of s, of one value, that the other lacks
  record Apart (r s : ℕ) : Type 0 where
    pub first : ℕ
    pub second : ℕ
    pub first_in : first < L
    pub second_in : second < L
    pub value : u first ≡ u second
    pub first_has : has_player r first ≡ true
    pub first_lacks : has_player s first ≡ false
    pub second_lacks : has_player r second ≡ false
    pub second_has : has_player s second ≡ true

  module _ (r s : ℕ) (alike : AreAlike r s) where
    abbrev part : ℕ → ℤ → ℕ → ℤ
    part t v l = cond (int_eq (u l) v) (cond (has_player t l) (pos 1) (pos 0)) (pos 0)

    -- where the one has more at a position of value v, and the other less
    more_at : (t : ℕ) (o : ℕ) (v : ℤ) (l : ℕ) → part o v l <ℤ part t v l
        → (u l ≡ v) × (has_player t l ≡ true) × (has_player o l ≡ false)
    more_at t o v l less = by_case (int_eq (u l) v) refl (has_player t l) refl (has_player o l) refl less
      where
        by_case : (e : Bool) → int_eq (u l) v ≡ e → (p : Bool) → has_player t l ≡ p → (q : Bool)
            → has_player o l ≡ q
            → cond e (cond q (pos 1) (pos 0)) (pos 0) <ℤ cond e (cond p (pos 1) (pos 0)) (pos 0)
            → (u l ≡ v) × (has_player t l ≡ true) × (has_player o l ≡ false)
        by_case e h p f q k less = grind (arith, linear, from_int_eq)

    at_value : (t l : ℕ) → part t (u l) l ≡ cond (has_player t l) (pos 1) (pos 0)
    at_value t l =
        ap (λ (b : Bool). cond b (cond (has_player t l) (pos 1) (pos 0)) (pos 0)) (to_int_eq (u l) (u l) refl)

    apart_first : (l : ℕ) → l < L → has_player r l ≡ true → has_player s l ≡ false → Apart r s
    apart_first l lt has lacks = elim (some_greater L (part s (u l)) (part r (u l))) [
      | inl found ↦
          (let at = more_at s r (u l) found.0 found.2 in
          record {
            first = l;
            second = found.0;
            first_in = lt;
            second_in = found.1;
            value = sym at.0;
            first_has = has;
            first_lacks = lacks;
            second_lacks = at.2;
            second_has = at.1;
          })
      | inr none ↦ absurd
          (let less = sum_below-less L l (part s (u l)) (part r (u l)) none lt
          (rw (at_value s l, at_value r l, has, lacks) (omega (arith, linear))) in
          omega (arith, linear, less, alike (u l)))
    ]

    apart_second : (l : ℕ) → l < L → has_player r l ≡ false → has_player s l ≡ true → Apart r s
    apart_second l lt lacks has = elim (some_greater L (part r (u l)) (part s (u l))) [
      | inl found ↦
          (let at = more_at r s (u l) found.0 found.2 in
          record {
            first = found.0;
            second = l;
            first_in = found.1;
            second_in = lt;
            value = at.0;
            first_has = at.1;
            first_lacks = at.2;
            second_lacks = lacks;
            second_has = has;
          })
      | inr none ↦ absurd
          (let less = sum_below-less L l (part r (u l)) (part s (u l)) none lt
          (rw (at_value s l, at_value r l, has, lacks) (omega (arith, linear))) in
          omega (arith, linear, less, alike (u l)))
    ]

    apart_or_same : r < 2 ^ L → s < 2 ^ L → Apart r s ⊎ (r ≡ s)
    apart_or_same hr hs = elim (some_greater L (λ l. cond (has_player r l) (pos 1) (pos 0))
        (λ l. cond (has_player s l) (pos 1) (pos 0))) [
          | inl found ↦
              (let at = has_more (has_player r found.0) (has_player s found.0) found.2 in
              inl (apart_first found.0 found.1 at.0 at.1))
          | inr le ↦ elim (some_greater L (λ l. cond (has_player s l) (pos 1) (pos 0))
              (λ l. cond (has_player r l) (pos 1) (pos 0))) [
                | inl found ↦
                    (let at = has_more (has_player s found.0) (has_player r found.0) found.2 in
                    inl (apart_second found.0 found.1 at.1 at.0))
                | inr ge ↦ inr
                    (same_below L r s hr hs (λ l lt. has_same (has_player r l) (has_player s l) (le l lt) (ge l lt)))
              ]
        ]
      where
        has_more : (p q : Bool) → cond q (pos 1) (pos 0) <ℤ cond p (pos 1) (pos 0) → (p ≡ true) × (q ≡ false)
        has_more p q lt = grind (arith, linear)

        has_same : (p q : Bool) → cond p (pos 1) (pos 0) ≤ℤ cond q (pos 1) (pos 0)
            → cond q (pos 1) (pos 0) ≤ℤ cond p (pos 1) (pos 0) → p ≡ q
        has_same p q h k = grind (arith, linear)

    -- the exchange of the two brings r nearer to s
    module _ (a : Apart r s) where
      abbrev moved : ℕ
      moved = swap a.first a.second r

      -- whether the words t and s differ at position l
      abbrev apart_at : ℕ → ℕ → ℤ
      apart_at t l = cond (differ t s l) (pos 1) (pos 0)

      lacks_first : has_player moved a.first ≡ false
      lacks_first =
          swap_has a.first a.second r a.first a.first_in ∙ ap (has_player r) (exchanged_first a.first a.second)
          ∙ a.second_lacks

      has_second : has_player moved a.second ≡ true
      has_second =
          swap_has a.first a.second r a.second a.second_in ∙ ap (has_player r) (exchanged_second a.first a.second)
          ∙ a.first_has

      less_at_first : apart_at moved a.first <ℤ apart_at r a.first
      less_at_first = rw (lacks_first, a.first_has, a.first_lacks) (omega (arith, linear))

      low_where_same : (l : ℕ) → has_player moved l ≡ has_player s l → apart_at moved l ≤ℤ apart_at r l
      low_where_same l e =
          let none : apart_at moved l ≡ pos 0 = rw e (same (has_player s l)) in
          let low = one_or_none-low (differ r s l) in omega (arith, linear, none, low)
        where
          same : (b : Bool) → cond ((b && not b) || (not b && b)) (pos 1) (pos 0) ≡ pos 0
          same b = grind arith

      no_more : (l : ℕ) → l < L → apart_at moved l ≤ℤ apart_at r l
      no_more l lt = elim (same_or_other l a.first) [
        | inl first ↦ low_where_same l
            (ap (has_player moved) first ∙ lacks_first ∙ sym a.first_lacks ∙ ap (has_player s) (sym first))
        | inr other ↦ elim (same_or_other l a.second) [
          | inl second ↦ low_where_same l
              (ap (has_player moved) second ∙ has_second ∙ sym a.second_has ∙ ap (has_player s) (sym second))
          | inr neither ↦
              (let same = swap_has a.first a.second r l lt
              ∙ ap (has_player r) (exchanged_other a.first a.second l other neither) in
              rw same (omega (arith, linear)))
        ]
      ]

      nearer : distance moved s <ℤ distance r s
      nearer = sum_below-less L a.first (apart_at moved) (apart_at r) no_more a.first_in less_at_first

  distance_low : (r s : ℕ) → pos 0 ≤ℤ distance r s
  distance_low r s =
      sum_below-nonnegative L (λ l. cond (differ r s l) (pos 1) (pos 0)) (λ l lt. one_or_none-low (differ r s l))

  -- what exchanges of two positions of one value keep is the same of all words that are alike
  module _ (s : ℕ) (hs : s < 2 ^ L) (P : ℕ → ℤ)
      (kept : (a b r : ℕ) → a < L → b < L → u a ≡ u b → r < 2 ^ L → AreAlike r s → P (swap a b r) ≡ P r) where
    by_distance : (k r : ℕ) → r < 2 ^ L → AreAlike r s → distance r s ≤ℤ pos k → P r ≡ P s
    by_distance zero r hr alike near = elim (apart_or_same r s alike hr hs) [
      | inr same ↦ ap P same
      | inl a ↦ absurd
          (omega (arith, linear, nearer r s alike a, distance_low (swap a.first a.second r) s, near))
    ]
    by_distance (suc k) r hr alike near = elim (apart_or_same r s alike hr hs) [
      | inr same ↦ ap P same
      | inl a ↦
          let w = swap a.first a.second r in
          sym (kept a.first a.second r a.first_in a.second_in a.value hr alike)
          ∙ by_distance k w (swap_within a.first a.second r)
          (λ v. swap_weight a.first a.second r v a.first_in a.second_in a.value ∙ alike v)
          (omega (arith, linear, nearer r s alike a, near))
    ]

    pub kept_alike : (r : ℕ) → r < 2 ^ L → AreAlike r s → P r ≡ P s
    kept_alike r hr alike =
        by_distance (unsigned_abs (distance r s)) r hr alike (bounded (distance r s) (distance_low r s))
      where
        bounded : (z : ℤ) → pos 0 ≤ℤ z → z ≤ℤ pos (unsigned_abs z)
        bounded z low = omega (arith, ints)
