-- The span of fixed coalitions, by elimination of one player after the other: each vector is a combination of the fixed
-- ones, except at some players. A coalition whose vector isn't such a combination there takes one more player away.
use Rattle.std.proofs.Common.{◌≡◌, ◌≢◌, ◌⊎◌, ℕ, ◌<◌, List, [], ◌∷◌, ◌++◌, ℤ, pos, neg_ℤ, ◌+ℤ◌, ◌*ℤ◌, refl, sym, ap}
use Rattle.std.proofs.Common.{subst, ◌∙◌, inl, inr, arith}
use Rattle.std.specs.List.{AllByRecursion}
use Rattle.std.proofs.lemmas.Int.{by_lt_z}
use Rattle.definitions.proofs.Ring.{linear, ring_laws, mul-zeroℤ}
use Rattle.definitions.proofs.Members.{times_bit, weight_at-append}
use Rattle.definitions.proofs.Alls.{all_join, all_weaken}
use Rattle.definitions.proofs.Cancel.{cancel}
use Rattle.definitions.proofs.ScaledPairs.{scaled_pairs, weight_at-scaled, all_scaled}
use Rattle.definitions.specs.Coalitions.{has_player, weight_at}
use Rattle.definitions.specs.Certificates.{InSpan}
use Rattle.law_duality.proofs.BondarevaShapley.{member}
use Rattle.law_duality.proofs.Levels.{Member, all_member, Choice, pick}
use Rattle.theorems.proofs.Products.{sorted_products}

-- ---- vectors but for some players

-- at each player but those of js, a multiple of the vector is a combination of fixed ones
pub record Reduced (n : ℕ) (Fixed : ℕ → Type 0) (js : List ℕ) (w : ℕ → ℤ) : Type 0 where
  pub factor : ℤ
  pub apart : factor ≢ pos 0
  pub pairs : List (ℕ × ℤ)
  pub fixed : AllByRecursion (λ (p : ℕ × ℤ). Fixed p.0) pairs
  pub same : (i : ℕ) → i < n → Member i js ⊎ (weight_at pairs i ≡ factor *ℤ w i)

abbrev pub Reduces : ℕ → (ℕ → Type 0) → List ℕ → Type 0
Reduces n Fixed js = (w : ℕ → ℤ) → Reduced n Fixed js w

-- at one of these players the vector of s isn't the combination
pub record Pivot (n : ℕ) (Fixed : ℕ → Type 0) (js : List ℕ) (s : ℕ) : Type 0 where
  pub reduced : Reduced n Fixed js (member s)
  pub choice : Choice (λ j. weight_at reduced.pairs j ≢ reduced.factor *ℤ member s j) js

same_or_apart : (a b : ℤ) → (a ≢ b) ⊎ (a ≡ b)
same_or_apart a b =
    by_lt_z a b (λ lt. inl (λ e. omega (arith, linear, lt, e)))
    (λ le. by_lt_z b a (λ lt. inl (λ e. omega (arith, linear, lt, e))) (λ ge. inr (omega (arith, linear, le, ge))))

pub spanned_or_pivot : (n : ℕ) (Fixed : ℕ → Type 0) (js : List ℕ) → Reduces n Fixed js → (s : ℕ)
    → InSpan n Fixed s ⊎ Pivot n Fixed js s
spanned_or_pivot n Fixed js reduce s =
    let r = reduce (member s) in
    elim
    (pick (λ j. weight_at r.pairs j ≢ r.factor *ℤ member s j) (λ j. weight_at r.pairs j ≡ r.factor *ℤ member s j) js
    (λ j h. same_or_apart (weight_at r.pairs j) (r.factor *ℤ member s j))) [
      | inl c ↦ inr (record { reduced = r; choice = c })
      | inr all ↦ inl (
        r.factor,
        r.apart,
        r.pairs,
        r.fixed,
        λ i lt. elim (r.same i lt) [
          | inl h ↦
              all_member (λ j. weight_at r.pairs j ≡ r.factor *ℤ member s j) js i all h
              ∙ times_bit (has_player s i) r.factor
          | inr e ↦ e ∙ times_bit (has_player s i) r.factor
        ],
      )
    ]

-- ---- one more fixed coalition

module _ (n : ℕ) (Fixed More : ℕ → Type 0) (js : List ℕ) (wider : (t : ℕ) → Fixed t → More t) (s : ℕ) (now : More s)
    (p : Pivot n Fixed js s) where
  abbrev v : Reduced n Fixed js (member s)
  v = p.reduced

  abbrev one : ℕ
  one = p.choice.one

  -- what the vector of s leaves at the player that goes
  abbrev a : ℤ
  a = v.factor *ℤ member s one +ℤ neg_ℤ (weight_at v.pairs one)

  a_apart : a ≢ pos 0
  a_apart e = p.choice.is (omega (arith, linear, e))

  abbrev left : (w : ℕ → ℤ) → Reduced n Fixed js w → ℤ
  left w r = r.factor *ℤ w one +ℤ neg_ℤ (weight_at r.pairs one)

  abbrev joined : (w : ℕ → ℤ) → Reduced n Fixed js w → List (ℕ × ℤ)
  joined w r = scaled_pairs a r.pairs ++ (scaled_pairs (neg_ℤ (left w r)) v.pairs ++ ((s, left w r *ℤ v.factor) ∷ []))

  joined_at : (w : ℕ → ℤ) (r : Reduced n Fixed js w) (i : ℕ)
      → weight_at (joined w r) i
      ≡ a *ℤ weight_at r.pairs i +ℤ left w r *ℤ (v.factor *ℤ member s i +ℤ neg_ℤ (weight_at v.pairs i))
  joined_at w r i =
      let b = left w r in
      let f = v.factor in
      let t = weight_at v.pairs i in
      let e0 = weight_at-append (scaled_pairs a r.pairs) (scaled_pairs (neg_ℤ b) v.pairs ++ ((s, b *ℤ f) ∷ [])) i in
      let e1 = weight_at-append (scaled_pairs (neg_ℤ b) v.pairs) ((s, b *ℤ f) ∷ []) i in
      let e2 = weight_at-scaled a r.pairs i in
      let e5 : b *ℤ (f *ℤ member s i +ℤ neg_ℤ t) ≡ (b *ℤ f) *ℤ member s i +ℤ neg_ℤ b *ℤ t =
      shaped b f (member s i) t in
      omega (arith, linear, e0, e1, e2, weight_at-scaled (neg_ℤ b) v.pairs i, times_bit (has_player s i) (b *ℤ f), e5)
    where
      shaped : (b f h t : ℤ) → b *ℤ (f *ℤ h +ℤ neg_ℤ t) ≡ (b *ℤ f) *ℤ h +ℤ neg_ℤ b *ℤ t
      shaped b f h t = simp ring_laws refl

  -- the vector and that of s are the combinations at a player
  at_both : (w : ℕ → ℤ) (r : Reduced n Fixed js w) (i : ℕ) → weight_at r.pairs i ≡ r.factor *ℤ w i
      → weight_at v.pairs i ≡ v.factor *ℤ member s i → weight_at (joined w r) i ≡ (a *ℤ r.factor) *ℤ w i
  at_both w r i e h =
      joined_at w r i ∙ shaped a (left w r) r.factor (w i) (weight_at r.pairs i) (v.factor *ℤ member s i)
      (weight_at v.pairs i) e h
    where
      shaped : (a b f z u k t : ℤ) → u ≡ f *ℤ z → t ≡ k → a *ℤ u +ℤ b *ℤ (k +ℤ neg_ℤ t) ≡ (a *ℤ f) *ℤ z
      shaped a b f z u k t e h =
          let zero : k +ℤ neg_ℤ t ≡ pos 0 = omega (arith, linear, h) in
          omega (sorted_products, ap (◌*ℤ◌ b) zero, ap (◌*ℤ◌ a) e)

  at_one : (w : ℕ → ℤ) (r : Reduced n Fixed js w) → weight_at (joined w r) one ≡ (a *ℤ r.factor) *ℤ w one
  at_one w r = joined_at w r one ∙ shaped a r.factor (w one) (weight_at r.pairs one)
    where
      shaped : (a f z u : ℤ) → a *ℤ u +ℤ (f *ℤ z +ℤ neg_ℤ u) *ℤ a ≡ (a *ℤ f) *ℤ z
      shaped a f z u = omega sorted_products

  pub reduces_more : Reduces n Fixed js → Reduces n More p.choice.rest
  reduces_more reduce w =
      let r = reduce w in
      record {
        factor = a *ℤ r.factor;
        apart = λ e. r.apart (cancel a r.factor (pos 0) a_apart (e ∙ sym (mul-zeroℤ a)));
        pairs = joined w r;
        fixed = all_join (λ (q : ℕ × ℤ). More q.0) (scaled_pairs a r.pairs)
            (scaled_pairs (neg_ℤ (left w r)) v.pairs ++ ((s, left w r *ℤ v.factor) ∷ []))
            (all_scaled More a r.pairs (widen r.pairs r.fixed))
            (all_join (λ (q : ℕ × ℤ). More q.0) (scaled_pairs (neg_ℤ (left w r)) v.pairs)
            ((s, left w r *ℤ v.factor) ∷ [])
            (all_scaled More (neg_ℤ (left w r)) v.pairs (widen v.pairs v.fixed)) (now, tt));
        same = λ i lt. elim (r.same i lt) [
          | inl h ↦ known i h
          | inr e ↦ elim (v.same i lt) [ inl h ↦ known i h | inr f ↦ inr (at_both w r i e f) ]
        ];
      }
    where
      widen : (ps : List (ℕ × ℤ)) → AllByRecursion (λ (q : ℕ × ℤ). Fixed q.0) ps
          → AllByRecursion (λ (q : ℕ × ℤ). More q.0) ps
      widen ps h = all_weaken (λ (q : ℕ × ℤ). Fixed q.0) (λ (q : ℕ × ℤ). More q.0) ps (λ q k. wider q.0 k) h

      known : (i : ℕ) → Member i js
          → Member i p.choice.rest
          ⊎ (weight_at (joined w (reduce w)) i ≡ (a *ℤ (reduce w).factor) *ℤ w i)
      known i h = elim (p.choice.members i h) [
        | inl is ↦ inr
            (subst (λ (k : ℕ). weight_at (joined w (reduce w)) k ≡ (a *ℤ (reduce w).factor) *ℤ w k) (sym is)
            (at_one w (reduce w)))
        | inr rest ↦ inl rest
      ]
