-- If some point meets rows, one has the least unknown 0, or one not above a bound: the rows without the last unknown
-- have such a point, and it has room for a number there.
use Rattle.std.proofs.Common.{◌≡◌, ◌⊎◌, ℕ, zero, suc, ◌≤◌, List, [], ◌∷◌, ◌++◌, ℤ, pos, neg_ℤ, ◌<ℤ◌}
use Rattle.std.proofs.Common.{◌≤ℤ◌, refl, sym, ap, subst, inl, inr, arith}
use Rattle.std.specs.List.{AllByRecursion}
use Rattle.definitions.proofs.Alls.{all_weaken, all_both, all_with, all_join, all_left, all_right}
use Rattle.definitions.proofs.Ring.{linear}
use Rattle.theorems.proofs.Products.{sorted_products}
use Rattle.real_shares.specs.Numbers.{Numbers, IsOrderedGroup, AtMost, Equal, times}
use Rattle.real_shares.specs.Reals.{Real, AreReals}
use Rattle.real_shares.proofs.Orders.{decided, at_most-same, from_less}
use Rattle.real_shares.proofs.Multiples.{back, through, plus-at_most, times-keeps, times-cancel, times-zero}
use Rattle.real_shares.proofs.Multiples.{equal_path}
use Rattle.real_shares.proofs.RealNumbers.{are_ordered}
use Rattle.law_duality.proofs.BySign.{by_sign}
use Rattle.law_real_worths.proofs.Rows.{Row, Passes, Parts, value, Meets, combined, value_of_both, value_without}
use Rattle.law_real_worths.proofs.Rows.{longer, longer_same, longer_other, with, value_longer, bound_below, bound_above}
use Rattle.law_real_worths.proofs.Rows.{below_times, from_low_sum, met_above, met_below, met_crossed}

module _ (N : Numbers Real) (R : AreReals N) where
  abbrev L : IsOrderedGroup N
  L = are_ordered N R

  -- ---- each row of positive coefficient with each of negative one

  abbrev crossed : ℕ → Row → Row → Row
  crossed m p q = combined N R (neg_ℤ (q.coefficient m)) (p.coefficient m) p q

  abbrev pairs_with : ℕ → Row → List Row → List Row
  pairs_with m p [] = []
  pairs_with m p (q ∷ qs) = crossed m p q ∷ pairs_with m p qs

  abbrev pairs : ℕ → List Row → List Row → List Row
  pairs m [] qs = []
  pairs m (p ∷ ps) qs = pairs_with m p qs ++ pairs m ps qs

  abbrev IsClosed : (Row → Type 0) → Type 0
  IsClosed C = (a b : ℤ) (u v : Row) → pos 0 ≤ℤ a → pos 0 ≤ℤ b → C u → C v → C (combined N R a b u v)

  -- what is closed, and has no coefficient there
  abbrev Without : ℕ → (Row → Type 0) → Row → Type 0
  Without m C u = C u × (u.coefficient m ≡ pos 0)

  pairs_with_without : (m : ℕ) (C : Row → Type 0) → IsClosed C → (p : Row) (qs : List Row)
      → C p × (pos 0 <ℤ p.coefficient m) → AllByRecursion (λ (u : Row). C u × (u.coefficient m <ℤ pos 0)) qs
      → AllByRecursion (Without m C) (pairs_with m p qs)
  pairs_with_without m C closed p [] h k = tt
  pairs_with_without m C closed p (q ∷ qs) h k = (
    (
      closed (neg_ℤ (q.coefficient m)) (p.coefficient m) p q (omega (arith, linear, k.0.1)) (omega (arith, linear, h.1))
          h.0 k.0.0,
      omega sorted_products,
    ),
    pairs_with_without m C closed p qs h k.1,
  )

  pairs_without : (m : ℕ) (C : Row → Type 0) → IsClosed C → (ps qs : List Row)
      → AllByRecursion (λ (u : Row). C u × (pos 0 <ℤ u.coefficient m)) ps
      → AllByRecursion (λ (u : Row). C u × (u.coefficient m <ℤ pos 0)) qs
      → AllByRecursion (Without m C) (pairs m ps qs)
  pairs_without m C closed [] qs h k = tt
  pairs_without m C closed (p ∷ ps) qs h k =
      all_join (Without m C) (pairs_with m p qs) (pairs m ps qs) (pairs_with_without m C closed p qs h.0 k)
      (pairs_without m C closed ps qs h.1 k)

  from_pairs_with : (m : ℕ) (Q : Row → Type 0) (p : Row) (qs : List Row) → AllByRecursion Q (pairs_with m p qs)
      → AllByRecursion (λ (q : Row). Q (crossed m p q)) qs
  from_pairs_with m Q p [] h = tt
  from_pairs_with m Q p (q ∷ qs) h = (h.0, from_pairs_with m Q p qs h.1)

  from_pairs : (m : ℕ) (Q : Row → Type 0) (ps qs : List Row) → AllByRecursion Q (pairs m ps qs)
      → AllByRecursion (λ (p : Row). AllByRecursion (λ (q : Row). Q (crossed m p q)) qs) ps
  from_pairs m Q [] qs h = tt
  from_pairs m Q (p ∷ ps) qs h = (
    from_pairs_with m Q p qs (all_left Q (pairs_with m p qs) (pairs m ps qs) h),
    from_pairs m Q ps qs (all_right Q (pairs_with m p qs) (pairs m ps qs) h),
  )

  -- ---- the greatest of some numbers, and one below all

  greatest_of : (f : Row → Real) (Q : Row → Type 0) (u : Row) (us : List Row) → Q u → AllByRecursion Q us
      → (v : Row) × Q v × AllByRecursion (λ (w : Row). AtMost N (f w) (f v)) (u ∷ us)
  greatest_of f Q u [] h k = (u, h, (at_most-same N L (f u), tt))
  greatest_of f Q u (v ∷ us) h k =
      let r = greatest_of f Q v us k.0 k.1 in
      elim (decided (N.at_most (f u) (f r.0))) [
        | inl le ↦ (r.0, r.1, (le, r.2))
        | inr above ↦
            let down = from_less N L (f r.0) (f u) above in (
              u,
              h,
              (
                at_most-same N L (f u),
                all_weaken (λ (w : Row). AtMost N (f w) (f r.0)) (λ (w : Row). AtMost N (f w) (f u)) (v ∷ us)
                    (λ w le. through N L le down) r.2,
              ),
            )
      ]

  below_all : (f : Row → Real) (us : List Row) (low : Real)
      → (c : Real) × AtMost N c low × AllByRecursion (λ (w : Row). AtMost N c (f w)) us
  below_all f [] low = (low, at_most-same N L low, tt)
  below_all f (u ∷ us) low =
      let r = below_all f us low in
      elim (decided (N.at_most r.0 (f u))) [
        | inl le ↦ (r.0, r.1, (le, r.2))
        | inr above ↦
            let down = from_less N L (f u) r.0 above in (
              f u,
              through N L down r.1,
              (
                at_most-same N L (f u),
                all_weaken (λ (w : Row). AtMost N r.0 (f w)) (λ (w : Row). AtMost N (f u) (f w)) us
                    (λ w le. through N L down le) r.2,
              ),
            )
      ]

  -- ---- a number for unknown m, by which the rows are met

  abbrev MetWith : ℕ → (ℕ → Real) → Real → Row → Type 0
  MetWith m z c u = AtMost N N.zero (with N R m z c u)

  -- the number of some row, or one not above the bound
  abbrev Source : (Row → Type 0) → ℕ → (ℕ → Real) → Real → Real → Type 0
  Source C m z low c =
      ((v : Row) × (C v × (pos 0 <ℤ v.coefficient m))
      × Equal N (times N (v.coefficient m) c) (N.minus (value N R m z v)))
      ⊎ AtMost N c low

  met_without : (m : ℕ) (z : ℕ → Real) (c : Real) (u : Row) → u.coefficient m ≡ pos 0 → Meets N R m z u
      → MetWith m z c u
  met_without m z c u e le =
      let v = value N R m z u in
      let none : Equal N (times N (u.coefficient m) c) N.zero = equal_path N L (times N (u.coefficient m) c) N.zero
      (ap (λ (a : ℤ). times N a c) e) in
      through N L le
      (through N L (L.neutral v).1
      (plus-at_most N L v v N.zero (times N (u.coefficient m) c) (at_most-same N L v) none.1))

  number_for : (m : ℕ) (C : Row → Type 0) (us : List Row) → (r : Parts m C us) → (z : ℕ → Real) (low : Real)
      → AllByRecursion (Meets N R m z) r.zs → AllByRecursion (Meets N R m z) (pairs m r.ps r.ns)
      → (c : Real) × AllByRecursion (MetWith m z c) us × Source C m z low c
  number_for m C us r z low flat crossings = by_rows r.ps refl
    where
      up : AllByRecursion (λ (u : Row). pos 0 <ℤ u.coefficient m) r.ps
      up =
          all_weaken (λ (u : Row). C u × (pos 0 <ℤ u.coefficient m)) (λ (u : Row). pos 0 <ℤ u.coefficient m) r.ps
          (λ u h. h.1) r.positive

      levels : (c : Real) → AllByRecursion (MetWith m z c) r.zs
      levels c =
          all_with (Meets N R m z) (λ (u : Row). C u × (u.coefficient m ≡ pos 0)) (MetWith m z c) r.zs
          (λ u le h. met_without m z c u h.1 le) flat r.none

      Whole : Row → Type 0
      Whole u =
          (C u × (pos 0 <ℤ u.coefficient m)) × AllByRecursion (λ (q : Row). Meets N R m z (crossed m u q)) r.ns

      by_rows : (ps : List Row) → r.ps ≡ ps
          → (c : Real) × AllByRecursion (MetWith m z c) us × Source C m z low c
      by_rows [] e =
          let k = below_all (bound_above N R m z) r.ns low in
          let c = k.0 in
          let none : AllByRecursion (MetWith m z c) r.ps =
          subst (λ (vs : List Row). AllByRecursion (MetWith m z c) vs) (sym e) tt in
          let down = all_with (λ (w : Row). AtMost N c (bound_above N R m z w))
          (λ (u : Row). C u × (u.coefficient m <ℤ pos 0)) (MetWith m z c) r.ns
          (λ u le h. met_below N R m z u c h.1 le) k.2 r.negative in
          (c, r.back (λ u. N.at_most N.zero (with N R m z c u)) none down (levels c), inr k.1)
      by_rows (p ∷ ps) e =
          let both : AllByRecursion Whole (p ∷ ps) = subst (λ (vs : List Row). AllByRecursion Whole vs) e
          (all_both (λ (u : Row). C u × (pos 0 <ℤ u.coefficient m))
          (λ (u : Row). AllByRecursion (λ (q : Row). Meets N R m z (crossed m u q)) r.ns) r.ps r.positive
          (from_pairs m (Meets N R m z) r.ps r.ns crossings)) in
          let s = greatest_of (bound_below N R m z) Whole p ps both.0 both.1 in
          let v = s.0 in
          let c = bound_below N R m z v in
          let most : AllByRecursion (λ (w : Row). AtMost N (bound_below N R m z w) c) r.ps =
          subst (λ (vs : List Row). AllByRecursion (λ (w : Row). AtMost N (bound_below N R m z w) c) vs) (sym e) s.2 in
          let ups = all_with (λ (w : Row). AtMost N (bound_below N R m z w) c)
          (λ (u : Row). pos 0 <ℤ u.coefficient m) (MetWith m z c) r.ps
          (λ u le h. met_above N R m z u c h le) most up in
          let down = all_weaken (λ (q : Row). Meets N R m z (crossed m v q)) (MetWith m z c) r.ns
          (λ q le. met_crossed N R m z v q s.1.0.1 le) s.1.1 in (
            c,
            r.back (λ u. N.at_most N.zero (with N R m z c u)) ups down (levels c),
            inl (v, s.1.0, below_times N R m z v s.1.0.1),
          )

  -- ---- one unknown after the other

  module _ (P : (ℕ → Real) → Type 0) (z0 : ℕ → Real) (some : P z0) (low : Real) where
    -- all points of P meet the row
    abbrev Sound : ℕ → Row → Type 0
    Sound m u = (y : ℕ → Real) → P y → Meets N R m y u

    sound_closed : (m : ℕ) → IsClosed (Sound m)
    sound_closed m a b u v ha hb hu hv y hy =
        let first = times-keeps N L a N.zero (value N R m y u) ha (hu y hy) in
        let second = times-keeps N L b N.zero (value N R m y v) hb (hv y hy) in
        through N L (L.neutral N.zero).1
        (through N L
        (plus-at_most N L N.zero (times N a (value N R m y u)) N.zero (times N b (value N R m y v))
        (through N L (times-zero N L a).1 first) (through N L (times-zero N L b).1 second))
        (value_of_both N R m y a b u v).1)

    sound_without : (m : ℕ) (u : Row) → Without m (Sound (suc m)) u → Sound m u
    sound_without m u h y hy = through N L (h.0 y hy) (value_without N R m y u h.1).0

    abbrev Ends : (ℕ → Real) → Type 0
    Ends z = ((y : ℕ → Real) → P y → AtMost N (z 0) (y 0)) ⊎ AtMost N (z 0) low

    meets_longer : (m : ℕ) (z : ℕ → Real) (c : Real) (us : List Row) → AllByRecursion (MetWith m z c) us
        → AllByRecursion (Meets N R (suc m) (longer N R m c z)) us
    meets_longer m z c us h =
        all_weaken (MetWith m z c) (Meets N R (suc m) (longer N R m c z)) us
        (λ u le. through N L le (value_longer N R m c z u).1) h

    first_unknown : (us : List Row) → AllByRecursion (Sound 1) us
        → (z : ℕ → Real) × AllByRecursion (Meets N R 1 z) us × Ends z
    first_unknown us h =
        let r = by_sign (λ (u : Row). u.coefficient 0) (Sound 1) Passes us h in
        let here = all_weaken (Without 0 (Sound 1)) (Meets N R 0 z0) r.zs
        (λ u s. sound_without 0 u s z0 some) r.none in
        let crossings = all_weaken (Without 0 (Sound 1)) (Meets N R 0 z0) (pairs 0 r.ps r.ns)
        (λ u s. sound_without 0 u s z0 some)
        (pairs_without 0 (Sound 1) (sound_closed 1) r.ps r.ns r.positive r.negative) in
        let k = number_for 0 (Sound 1) us r z0 low here crossings in
        let c = k.0 in
        let z = longer N R 0 c z0 in
        let is : z 0 ≡ c = longer_same N R 0 c z0 in (
          z,
          meets_longer 0 z0 c us k.1,
          elim k.2 [
            | inr under ↦ inr (through N L (equal_path N L (z 0) c is).0 under)
            | inl (v, s, e) ↦ inl (λ y hy. through N L (equal_path N L (z 0) c is).0
                (times-cancel N L (v.coefficient 0) c (y 0) s.1
                (through N L e.0
                (from_low_sum N R (value N R 0 z0 v) (times N (v.coefficient 0) (y 0))
                (through N L (s.0 y hy) (one_unknown v y).0)))))
          ],
        )
      where
        one_unknown : (v : Row) (y : ℕ → Real)
            → Equal N (value N R 1 y v) (N.plus (value N R 0 z0 v) (times N (v.coefficient 0) (y 0)))
        one_unknown v y = back N L (L.associates v.constant N.zero (times N (v.coefficient 0) (y 0)))

    ends_longer : (m : ℕ) (c : Real) (z : ℕ → Real) → 1 ≤ m → Ends z → Ends (longer N R m c z)
    ends_longer m c z some ends =
        let kept : Equal N (longer N R m c z 0) (z 0) = equal_path N L (longer N R m c z 0) (z 0)
        (longer_other N R m c z 0 (λ same. omega arith)) in
        elim ends [
          | inl least ↦ inl (λ y hy. through N L kept.0 (least y hy))
          | inr under ↦ inr (through N L kept.0 under)
        ]

    pub least_unknown : (m : ℕ) (us : List Row) → AllByRecursion (Sound (suc m)) us
        → (z : ℕ → Real) × AllByRecursion (Meets N R (suc m) z) us × Ends z
    least_unknown zero us h = first_unknown us h
    least_unknown (suc m) us h =
        let e = suc m in
        let r = by_sign (λ (u : Row). u.coefficient e) (Sound (suc e)) Passes us h in
        let all = all_join (Without e (Sound (suc e))) r.zs (pairs e r.ps r.ns) r.none
        (pairs_without e (Sound (suc e)) (sound_closed (suc e)) r.ps r.ns r.positive r.negative) in
        let found = least_unknown m (r.zs ++ pairs e r.ps r.ns)
        (all_weaken (Without e (Sound (suc e))) (Sound e) (r.zs ++ pairs e r.ps r.ns)
        (λ u s. sound_without e u s) all) in
        let z = found.0 in
        let k = number_for e (Sound (suc e)) us r z low (all_left (Meets N R e z) r.zs (pairs e r.ps r.ns) found.1)
        (all_right (Meets N R e z) r.zs (pairs e r.ps r.ns) found.1) in
        let c = k.0 in
        (longer N R e c z, meets_longer e z c us k.1, ends_longer e c z (omega arith) found.2)
