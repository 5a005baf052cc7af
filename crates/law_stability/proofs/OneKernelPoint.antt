-- Two points of the prekernel of a convex game are one. Some coalition has the greatest excess at both of those that
-- split a part, so its members get the same together at both, and the others of the part too; and then so on in each
-- (Maschler, Peleg and Shapley 1972).
--
-- By induction on the number of players of a part; the first part is all players. At a point, consider the coalitions
-- of greatest excess among those that split the part. Of two that meet there and leave somebody out, the union and the
-- common players have the greatest excess too, since the game is convex. For one with i and without j there is one with
-- j and without i, since surpluses are equal (NearRings.antt). If the members in the part of each such coalition got
-- more at the other point, so would the part, but the part gets the same (NoNearRing.antt). So one such coalition gets
-- no more, and has no less excess at the other point (SplitCoalitions.antt). From both sides the greatest excesses are
-- one number, had at both points by some coalition. It leaves two smaller parts (Narrowing.antt).
use Rattle.std.proofs.Common.{◌≡◌, ◌≢◌, ℕ, zero, suc, ◌^◌, ◌<◌, Bool, true, false, ◌&&◌, ◌||◌, not, nat_eq, ℤ, pos}
use Rattle.std.proofs.Common.{neg_ℤ, ◌+ℤ◌, ◌-ℤ◌, ◌*ℤ◌, ◌≤ℤ◌, refl, sym, ap, ◌∙◌, inl, inr, arith}
use Rattle.std.proofs.lemmas.Int.{ints}
use Rattle.definitions.proofs.Cases.{same_or_other, true_or_false, and_parts, and_both, from_not, nat_eq-other}
use Rattle.definitions.proofs.Cases.{from_not_nat_eq}
use Rattle.definitions.proofs.Masks.{grand_coalition-within}
use Rattle.definitions.proofs.Members.{has_player-singleton, has_player-singleton_other, sum_over-singleton}
use Rattle.definitions.proofs.Members.{sum_over-combined, sum_over-grand_coalition}
use Rattle.definitions.proofs.Ring.{linear, mul-leℤ}
use Rattle.definitions.proofs.Splits.{some_below-true, some_below-false}
use Rattle.definitions.proofs.SumsOver.{amount-at}
use Rattle.definitions.specs.Coalitions.{has_player, singleton, grand_coalition, some_below, splits}
use Rattle.definitions.specs.Convexity.{IsConvex}
use Rattle.definitions.specs.Games.{Game, Allocation, share, excess, IsAllocation, IsSame}
use Rattle.definitions.specs.Prekernel.{InPrekernel}
use Rattle.theorems.proofs.Moves.{parted, joined as both_tests}
use Rattle.law_answers.proofs.NucleolusIsInCore.{excess_grand}
use Rattle.law_stability.proofs.NearRings.{inside, outside}
use Rattle.law_stability.proofs.Narrowing.{IsReducible, reducible_in, reducible_out}
use Rattle.law_stability.proofs.SplitCoalitions.{splits_from, splits_to, IsSupermodular, IsReturned, IsSplitGreatest}
use Rattle.law_stability.proofs.SplitCoalitions.{lowest_top}
use Rattle.law_stability.proofs.Supermodular.{excess-both}
use Rattle.law_stability.proofs.Unions.{union, common}
use Rattle.law_stability.proofs.SumsByTest.{total, total-same, total-parts, total-negated}
use Rattle.law_stability.proofs.SumsByTest.{count, count-some, count-less}
use Rattle.law_stability.proofs.SumsByTest.{count-most}
use Rattle.theorems.proofs.Products.{products, sorted_products}

-- what has the same players of the part splits it too
splits-same : (n : ℕ) (p : ℕ → Bool) (s t : ℕ) → ((i : ℕ) → i < n → p i ≡ true → has_player t i ≡ has_player s i)
    → splits n p s ≡ true → splits n p t ≡ true
splits-same n p s t same h =
    let found = splits_to n p s h in
    let i = found.0 in
    let j = found.1 in
    let in_s = and_parts (p i.0) (has_player s i.0) i.2 in
    let out_s = and_parts (p j.0) (not (has_player s j.0)) j.2 in
    splits_from n p t
    (i.0, i.1, and_both (p i.0) (has_player t i.0) in_s.0 (same i.0 i.1 in_s.0 ∙ in_s.1))
    (j.0, j.1, and_both (p j.0) (not (has_player t j.0)) out_s.0 (ap not (same j.0 j.1 out_s.0) ∙ out_s.1))

module _ (n : ℕ) (f g z : ℕ → ℤ) (apart : (s : ℕ) → s < 2 ^ n → f s ≡ g s +ℤ total n z (has_player s))
    (f_modular : IsSupermodular n f) (g_modular : IsSupermodular n g) (f_returned : IsReturned n f)
    (g_returned : IsReturned n g) where
  -- one that is greatest by both numbers, which get the same
  abbrev Shared : (ℕ → Bool) → Type 0
  Shared p =
      (t : ℕ) × (t < 2 ^ n) × (splits n p t ≡ true) × IsSplitGreatest n p f t × IsSplitGreatest n p g t
      × (total n z (inside p t) ≡ pos 0)

  shared : (p : ℕ → Bool) → total n z p ≡ pos 0 → IsReducible n z f p → IsReducible n z g p → (i j : ℕ) → i < n
      → j < n → i ≢ j → p i ≡ true → p j ≡ true → Shared p
  shared p nothing may_f may_g i j hi hj ne pi pj =
      let a = lowest_top n f z p f_modular f_returned nothing i j hi hj ne pi pj in
      let b =
      lowest_top n g (λ k. neg_ℤ (z k)) p g_modular g_returned (total-negated n z p ∙ ap neg_ℤ nothing) i j hi hj ne
      pi
      pj in
      let t = may_f a.0 a.1 in
      let u = may_g b.0 b.1 in
      let split_t = splits-same n p a.0 t.0 t.2 a.2 in
      let split_u = splits-same n p b.0 u.0 u.2 b.2 in
      let turned = total-negated n z (inside p b.0) in
      let at_t = apart t.0 t.1 in
      let at_u = apart u.0 u.1 in
      let top_t = a.3 t.0 t.1 split_t in
      let top_u = a.3 u.0 u.1 split_u in
      let g_t = b.3 t.0 t.1 split_t in
      let same_in = total-same n z (inside p t.0) (inside p a.0)
      (λ k lt. agree (p k) (has_player t.0 k) (has_player a.0 k) (t.2 k lt)) in (
        t.0,
        t.1,
        split_t,
        λ s lt h. (let le = a.3 s lt h in omega (arith, linear, le, t.4)),
        λ s lt h.
            (omega (arith, linear, b.3 s lt h, a.4, b.4, turned, at_t, at_u, top_t, top_u, t.3, t.4, u.3, u.4)),
        omega (arith, linear, a.4, b.4, turned, at_t, at_u, top_t, top_u, g_t, t.3, t.4, u.3, u.4, same_in),
      )
    where
      agree : (q c d : Bool) → (q ≡ true → c ≡ d) → (q && c) ≡ (q && d)
      agree q c d h = grind arith

  -- who is alone in a part gets what the part gets
  alone : (p : ℕ → Bool) (i : ℕ) → i < n → p i ≡ true → ((j : ℕ) → j < n → (p j && not (nat_eq j i)) ≡ false)
      → total n z p ≡ z i
  alone p i hi pi none =
      total-same n z p (has_player (singleton i))
      (λ j lt. elim (same_or_other j i) [
        | inl same ↦ ap p same ∙ pi ∙ sym (ap (has_player (singleton i)) same ∙ has_player-singleton i)
        | inr ne ↦ lacks (p j) (nat_eq j i) (nat_eq-other j i ne) (none j lt)
            ∙ sym (has_player-singleton_other i j ne)
      ])
      ∙ sum_over-singleton n i z hi
    where
      lacks : (c d : Bool) → d ≡ false → (c && not d) ≡ false → c ≡ false
      lacks c d e h = grind arith

  -- by the number of players of the part
  all_nothing : (m : ℕ) (p : ℕ → Bool) → count n p ≤ℤ pos m → total n z p ≡ pos 0 → IsReducible n z f p
      → IsReducible n z g p → (i : ℕ) → i < n → p i ≡ true → z i ≡ pos 0
  all_nothing zero p few nothing may_f may_g i hi pi =
      let some = count-some n i p hi pi in absurd (omega (arith, ints, some, few))
  all_nothing (suc m) p few nothing may_f may_g i hi pi = elim (true_or_false (some_below n (other p i))) [
    | inr none ↦ sym (alone p i hi pi (some_below-false n (other p i) none)) ∙ nothing
    | inl some ↦
        let j = some_below-true n (other p i) some in
        let both = and_parts (p j.0) (not (nat_eq j.0 i)) j.2 in
        let ne = from_not_nat_eq j.0 i (from_not (nat_eq j.0 i) both.1) in
        let t = shared p nothing may_f may_g i j.0 hi j.1 ne pi both.0 in
        let found = splits_to n p t.0 t.2 in
        let parts = total-parts n z p (inside p t.0) (outside p t.0) (λ k lt. in_or_out (p k) (has_player t.0 k)) in
        let rest : total n z (outside p t.0) ≡ pos 0 = omega (arith, linear, parts, t.5, nothing) in
        elim (true_or_false (has_player t.0 i)) [
          | inl has ↦
              let less = count-less n found.1.0 p (inside p t.0) found.1.1
              (and_parts (p found.1.0) (not (has_player t.0 found.1.0)) found.1.2).0
              (isnt_in (p found.1.0) (has_player t.0 found.1.0) found.1.2)
              (λ k lt h. (and_parts (p k) (has_player t.0 k) h).0) in
              all_nothing m (inside p t.0) (omega (arith, ints, less, few)) t.5
              (reducible_in n z f p f_modular may_f t.0 t.1 t.2 t.3 t.5 rest)
              (reducible_in n z g p g_modular may_g t.0 t.1 t.2 t.4 t.5 rest) i hi
              (and_both (p i) (has_player t.0 i) pi has)
          | inr lacks ↦
              let less = count-less n found.0.0 p (outside p t.0) found.0.1
              (and_parts (p found.0.0) (has_player t.0 found.0.0) found.0.2).0
              (isnt_out (p found.0.0) (has_player t.0 found.0.0) found.0.2)
              (λ k lt h. (and_parts (p k) (not (has_player t.0 k)) h).0) in
              all_nothing m (outside p t.0) (omega (arith, ints, less, few)) rest
              (reducible_out n z f p f_modular may_f t.0 t.1 t.2 t.3 t.5 rest)
              (reducible_out n z g p g_modular may_g t.0 t.1 t.2 t.4 t.5 rest) i hi
              (and_both (p i) (not (has_player t.0 i)) pi (ap not lacks))
        ]
  ]
    where
      other : (ℕ → Bool) → ℕ → ℕ → Bool
      other p i j = p j && not (nat_eq j i)

      in_or_out : (q b : Bool) → (q ≡ ((q && b) || (q && not b))) × (((q && b) && (q && not b)) ≡ false)
      in_or_out q b = grind arith

      isnt_in : (q b : Bool) → (q && not b) ≡ true → (q && b) ≡ false
      isnt_in q b h = grind arith

      isnt_out : (q b : Bool) → (q && b) ≡ true → (q && not b) ≡ false
      isnt_out q b h = grind arith

-- ---- excesses at two points

module _ (g : Game) (x y : Allocation) (convex : IsConvex g) (hx : InPrekernel g x) (hy : InPrekernel g y) where
  abbrev n : ℕ
  n = g.players

  -- what each gets more at y, over both denominators
  abbrev more : ℕ → ℤ
  more i = x.den *ℤ share y i -ℤ y.den *ℤ share x i

  modular : (q : ℤ) (w : Allocation) → pos 1 ≤ℤ q → IsAllocation g w → IsSupermodular n (λ s. q *ℤ excess g w s)
  modular q w one hw a b ha hb =
      omega (
        products,
        mul-leℤ q (excess g w a +ℤ excess g w b) (excess g w (union n a b) +ℤ excess g w (common n a b))
            (omega (arith, linear, one)) (excess-both g w a b convex hw ha hb),
      )

  returned : (q : ℤ) (w : Allocation) → pos 1 ≤ℤ q → InPrekernel g w → IsReturned n (λ s. q *ℤ excess g w s)
  returned q w one hw s i j lt hi hj ne has lacks =
      let balanced = hw.2 i j hi hj ne in
      let most = balanced.2.0 in
      let t = most.0 in
      let parts = parted (has_player t j) (has_player t i) most.1.1 in
      let at_most =
      balanced.1.1 s (lt, both_tests (has_player s i) (has_player s j) has (ap not lacks)) in (
        t,
        most.1.0,
        parts.0,
        from_not (has_player t i) parts.1,
        mul-leℤ q (excess g w s) (excess g w t) (omega (arith, linear, one))
            (omega (arith, linear, at_most, most.2)),
      )

  differ : (s : ℕ) → s < 2 ^ n → y.den *ℤ excess g x s ≡ x.den *ℤ excess g y s +ℤ total n more (has_player s)
  differ s lt =
      omega (
        sorted_products,
        sum_over-combined n (share y) (share x) x.den y.den s,
        ap (◌*ℤ◌ y.den) (amount-at g x s hx.0),
        ap (◌*ℤ◌ x.den) (amount-at g y s hy.0),
      )

  -- both share out the whole
  sum : total n more (λ i. true) ≡ pos 0
  sum =
      let all = grand_coalition n in
      omega (
        products,
        sum_over-grand_coalition n more,
        differ all (grand_coalition-within n),
        ap (◌*ℤ◌ y.den) (excess_grand g x hx.1),
        ap (◌*ℤ◌ x.den) (excess_grand g y hy.1),
      )

  anything : (f : ℕ → ℤ) → IsReducible n more f (λ i. true)
  anything f s lt = (s, lt, λ i h e. refl, refl, omega (arith, linear))

  pub same_point : IsSame g x y
  same_point i lt =
      let nothing =
      all_nothing n (λ s. y.den *ℤ excess g x s) (λ s. x.den *ℤ excess g y s) more differ
      (modular y.den x hy.0.1 hx.0)
      (modular x.den y hx.0.1 hy.0) (returned y.den x hy.0.1 hx) (returned x.den y hx.0.1 hy) n (λ i. true)
      (count-most n (λ i. true)) sum (anything (λ s. y.den *ℤ excess g x s)) (anything (λ s. x.den *ℤ excess g y s))
      i
      lt refl in
      omega (sorted_products, nothing)
