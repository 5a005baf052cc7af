-- The deal with rows and columns exchanged is fair.
use Rattle.std.proofs.Common.{◌≡◌, ◌≢◌, ℕ, ◌<◌, ◌≤◌, refl, sym, ap, ◌∙◌}
use Rattle.std.proofs.Common.{inl, inr, arith}
use Rattle.big_assignment.specs.declared.deal.Deal.{Deal}
use Rattle.big_assignment.specs.Deals.{AreDealOffers, IsFair, IsOutside, IsTight, IsTurned}
use Rattle.big_assignment.specs.Deals.{gain_of, mate_of, offer_of, price_of}
use Rattle.definitions.proofs.Cases.{below_or_above}

module _ (d : Deal) (rows columns : ℕ) (t : Deal) (h : IsTurned d rows columns t) where
  pub turned_offers : AreDealOffers d → AreDealOffers t
  turned_offers o = record {
    small = λ k i kl il. elim (below_or_above i 32) [
      | inl lt ↦ (let a = h.offers k i kl lt in let b = o.small i k lt (omega arith) in omega arith)
      | inr ge ↦ (let e : i ≡ 32 = omega arith in let a = ap (offer_of t k) e ∙ h.none k kl in omega arith)
    ];
    nothing = h.none;
  }

  pub turned_outside : IsOutside (offer_of d) rows columns → IsOutside (offer_of t) columns rows
  turned_outside out k i kl il side = elim (below_or_above i 32) [
    | inl lt ↦ h.offers k i kl lt ∙ out i k lt (omega arith) (elim side [ inl a ↦ inr a | inr b ↦ inl b ])
    | inr ge ↦ (let e : i ≡ 32 = omega arith in ap (offer_of t k) e ∙ h.none k kl)
  ]

  -- the row that has a column, turned back
  pub hold_back : columns ≤ 32 → IsFair d rows → (i : ℕ) → i < rows → mate_of d i < columns
      → mate_of t (mate_of d i) ≡ i
  hold_back few f i il lt = elim (h.holds (mate_of d i) lt) [
    | inl held ↦ f.apart (mate_of t (mate_of d i)) i held.0 il held.1 (omega arith)
    | inr none ↦ absurd (none.1 i il refl)
  ]

  -- a row whose column is outside gains nothing
  lone_gain : rows ≤ 32 → columns ≤ 32 → IsOutside (offer_of d) rows columns → IsFair d rows → (i : ℕ) → i < rows
      → columns ≤ mate_of d i → gain_of d i ≡ 0
  lone_gain fr few out f i il ge =
      omega (arith, f.tight i il, out i (mate_of d i) (omega arith) (f.within i il) (inr ge))

  pub turned_fair : rows ≤ 32 → columns ≤ 32 → IsOutside (offer_of d) rows columns → IsFair d rows → IsFair t columns
  turned_fair fr few out f = record {
    covers = λ k i kl il. elim (below_or_above i rows) [
      | inl lt ↦
          (let a = h.offers k i (omega arith) (omega arith) in
          let b = h.gains k (omega arith) in
          let c = h.prices i lt in let e = f.covers i k lt (omega arith) in omega arith)
      | inr ge ↦ (let a = turned_outside out k i (omega arith) il (inr ge) in omega arith)
    ];
    tight = λ k kl. elim (h.holds k kl) [
      | inl held ↦ held_tight k kl held.0 held.1
      | inr none ↦ free_tight k kl none.0 none.1
    ];
    within = λ k kl. elim (h.holds k kl) [
      | inl held ↦ omega arith
      | inr none ↦ omega arith
    ];
    apart = λ k l kl ll e small. elim (h.holds k kl) [
      | inl held ↦ elim (h.holds l ll) [
        | inl other ↦ sym held.1 ∙ ap (mate_of d) e ∙ other.1
        | inr none ↦ absurd (omega arith)
      ]
      | inr none ↦ absurd (omega arith)
    ];
    sold = λ i il. elim (below_or_above i rows) [
      | inl lt ↦ elim (below_or_above (mate_of d i) columns) [
        | inl inside ↦ inr (mate_of d i, inside, hold_back few f i lt inside)
        | inr ge ↦ inl (h.prices i lt ∙ lone_gain fr few out f i lt ge)
      ]
      | inr ge ↦ inl (h.beside i ge)
    ];
    free = h.beside 32 fr;
  }
    where
      held_tight : (k : ℕ) → k < columns → mate_of t k < rows → mate_of d (mate_of t k) ≡ k
          → IsTight t k (mate_of t k)
      held_tight k kl lt e =
          let a = h.offers k (mate_of t k) (omega arith) (omega arith) in
          let b = h.gains k (omega arith) in
          let c = h.prices (mate_of t k) lt in
          let g = rw e at (f.tight (mate_of t k) lt) in
          omega arith

      price_zero : (k : ℕ) → k < columns → ((l : ℕ) → l < rows → mate_of d l ≢ k) → price_of d k ≡ 0
      price_zero k kl none = elim (f.sold k (omega arith)) [
        | inl e ↦ e
        | inr held ↦ absurd (none held.0 held.1 held.2)
      ]

      free_tight : (k : ℕ) → k < columns → mate_of t k ≡ 32 → ((l : ℕ) → l < rows → mate_of d l ≢ k)
          → IsTight t k (mate_of t k)
      free_tight k kl e none =
          let a = ap (offer_of t k) e ∙ h.none k (omega arith) in
          let b = h.gains k (omega arith) in
          let c = price_zero k kl none in
          let g = h.beside (mate_of t k) (omega arith) in
          omega arith
