-- What the members of a coalition have who go: all that it has, less what its members have who stay.
use Rattle.std.proofs.Common.{◌≡◌, ◌≢◌, ◌⊎◌, ℕ, zero, suc, ◌-◌, ◌^◌, ◌<◌, Bool, true, false, cond, not, ◌&&◌, nat_eq, ℤ}
use Rattle.std.proofs.Common.{pos, ◌+ℤ◌, ◌-ℤ◌, ◌*ℤ◌, ◌≤ℤ◌, refl, sym, ap, ◌∙◌, inl, inr, arith}
use Rattle.definitions.proofs.Ring.{linear}
use Rattle.definitions.proofs.Cases.{same_or_other, from_nat_eq, and_parts}
use Rattle.definitions.proofs.Masks.{grand_coalition-within}
use Rattle.definitions.proofs.Members.{has_player-singleton, has_player-singleton_other, has_player-complement}
use Rattle.definitions.proofs.Members.{sum_over-nonnegative, sum_over-complement, sum_over-combined, sum_below-zero}
use Rattle.definitions.proofs.Members.{sum_over-grand_coalition}
use Rattle.definitions.proofs.Splits.{some_below-true}
use Rattle.definitions.specs.Coalitions.{has_player, singleton, grand_coalition, sum_over, some_below}
use Rattle.law_answers.proofs.RenumberedCoalitions.{coalition_where-has}
use Rattle.law_reduced_games.specs.ReducedGames.{AreSome, staying}
use Rattle.law_reduced_games.proofs.Staying.{staying_within, staying_is, staying_has, staying_all, old_numbers, spread}
use Rattle.law_reduced_games.proofs.Staying.{sum_over-spread}
use Rattle.theorems.proofs.Products.{products}

module _ (n m : ℕ) (who : ℕ → ℕ) (s : AreSome n m who) where
  abbrev pub leaving : (ℕ → ℤ) → ℕ → ℤ
  leaving a t = sum_over n a t -ℤ sum_over m (λ k. a (who k)) (staying m who t)

  -- the number of a player who goes, and 0 for one who stays
  abbrev pub gone : (ℕ → ℤ) → ℕ → ℤ
  gone a i = pos 1 *ℤ a i -ℤ pos 1 *ℤ spread m who (λ k. a (who k)) i

  pub leaving_is : (a : ℕ → ℤ) (t : ℕ) → leaving a t ≡ sum_over n (gone a) t
  leaving_is a t =
      omega (
        products,
        sum_over-combined n a (spread m who (λ k. a (who k))) (pos 1) (pos 1) t,
        sum_over-spread n m who (λ k. a (who k)) t s.players,
      )

  -- of the first c who stay, i is one, or none
  pub spread_either : (a : ℕ → ℤ) (i c : ℕ) → ((k l : ℕ) → k < c → l < c → who k ≡ who l → k ≡ l)
      → ((spread c who (λ k. a (who k)) i ≡ pos 0) × ((k : ℕ) → k < c → who k ≢ i))
      ⊎ ((spread c who (λ k. a (who k)) i ≡ a i) × ((k : ℕ) × (k < c) × (who k ≡ i)))
  spread_either a i zero once = inl (refl, λ k lt. absurd (omega arith))
  spread_either a i (suc c) once =
      let ih = spread_either a i c (λ k l hk hl. once k l (omega arith) (omega arith)) in
      elim (same_or_other i (who c)) [
        | inl same ↦
            let here = ap (λ (b : Bool). cond b (a (who c)) (pos 0))
            (ap (has_player (singleton (who c))) same ∙ has_player-singleton (who c)) in
            elim ih [
              | inl none ↦ inr
                  (omega (arith, linear, here, none.0, ap a same), (c, omega arith, sym same))
              | inr some ↦ absurd
                  (omega (arith, once some.1.0 c (omega (arith, some.1.1)) (omega arith) (some.1.2 ∙ same), some.1.1))
            ]
        | inr other ↦
            let here = ap (λ (b : Bool). cond b (a (who c)) (pos 0)) (has_player-singleton_other (who c) i other) in
            elim ih [
              | inl none ↦ inl (
                omega (arith, linear, here, none.0),
                λ k lt. elim (same_or_other k c) [
                  | inl e ↦ λ h. other (sym h ∙ ap who e)
                  | inr ne ↦ none.1 k (omega (arith, lt, ne))
                ],
              )
              | inr some ↦ inr
                  (omega (arith, linear, here, some.0), (some.1.0, omega (arith, some.1.1), some.1.2))
            ]
      ]

  gone_low : (a : ℕ → ℤ) → ((i : ℕ) → i < n → pos 0 ≤ℤ a i) → (i : ℕ) → i < n → pos 0 ≤ℤ gone a i
  gone_low a low i lt =
      elim (spread_either a i m s.once) [
        | inl none ↦
            omega (products, low i lt, none.0)
        | inr some ↦
            omega (products, some.0)
      ]

  -- numbers of at least 0 add to at least 0
  pub leaving_low : (a : ℕ → ℤ) (t : ℕ) → ((i : ℕ) → i < n → pos 0 ≤ℤ a i) → pos 0 ≤ℤ leaving a t
  leaving_low a t low =
      (let p = sum_over-nonnegative n t (gone a) (gone_low a low) in omega (arith, linear, p, leaving_is a t))

  pub leaving_less : (a b : ℕ → ℤ) (t : ℕ) → ((i : ℕ) → i < n → a i ≤ℤ b i) → leaving a t ≤ℤ leaving b t
  leaving_less a b t le =
      let d : ℕ → ℤ = λ i. pos 1 *ℤ b i -ℤ pos 1 *ℤ a i in
      omega (
        products,
        leaving_low d t (λ i lt. (let here = le i lt in omega (products, here))),
        sum_over-combined n b a (pos 1) (pos 1) t,
        sum_over-combined m (λ k. b (who k)) (λ k. a (who k)) (pos 1) (pos 1) (staying m who t),
      )

  -- of those alone who stay nobody goes
  pub nobody_leaves : (a : ℕ → ℤ) (t : ℕ) → leaving a (old_numbers n m who t) ≡ pos 0
  nobody_leaves a t =
      leaving_is a (old_numbers n m who t)
      ∙ sum_below-zero n (λ i. cond (has_player (old_numbers n m who t) i) (gone a i) (pos 0))
      (λ i lt. at_one i lt (has_player (old_numbers n m who t) i) refl)
    where
      at_one : (i : ℕ) → i < n → (b : Bool) → has_player (old_numbers n m who t) i ≡ b
          → cond b (gone a i) (pos 0) ≡ pos 0
      at_one i lt false e = refl
      at_one i lt true e =
          let some =
          sym (coalition_where-has n (λ i. some_below m (λ k. nat_eq (who k) i && has_player t k)) i lt) ∙ e in
          let found = some_below-true m (λ k. nat_eq (who k) i && has_player t k) some in
          let is = from_nat_eq (who found.0) i (and_parts (nat_eq (who found.0) i) (has_player t found.0) found.2).0 in
          elim (spread_either a i m s.once) [
            | inl none ↦ absurd (none.1 found.0 found.1 is)
            | inr one ↦
                omega (products, one.0)
          ]

  -- of the other players those stay who don't in t
  pub staying_others : (t : ℕ) → t < 2 ^ n
      → staying m who (grand_coalition n - t) ≡ grand_coalition m - staying m who t
  staying_others t within =
      staying_is m who (grand_coalition n - t) (grand_coalition m - staying m who t) (omega (arith, more))
      (λ k lt. has_player-complement n t (who k) within (s.players k lt)
      ∙ sym (ap not (staying_has m who t k lt)) ∙ sym (has_player-complement m (staying m who t) k small lt))
    where
      more : grand_coalition m < 2 ^ m
      more = grand_coalition-within m

      small : staying m who t < 2 ^ m
      small = staying_within m who t

  -- a coalition and the others have together what all have
  pub leaving_parts : (a : ℕ → ℤ) (t : ℕ) → t < 2 ^ n
      → leaving a (grand_coalition n - t) +ℤ leaving a t ≡ leaving a (grand_coalition n)
  leaving_parts a t within =
      let u = staying m who t in
      omega (
        products,
        sum_over-complement n t a within,
        sum_over-complement m u (λ k. a (who k)) (staying_within m who t),
        ap (sum_over m (λ k. a (who k))) (staying_others t within),
        ap (sum_over m (λ k. a (who k))) (staying_all n m who s),
        sum_over-grand_coalition n a,
        sum_over-grand_coalition m (λ k. a (who k)),
      )
