-- The least value of an unknown over the points that meet rows: if there is a point and no lesser bound is broken,
-- some point has it.
--
-- It is the elimination of Elimination.antt, stopped at one unknown.
use Rattle.std.proofs.Common.{◌≡◌, ◌⊎◌, ℕ, zero, suc, ◌≤◌, List, [], ◌∷◌, ◌++◌, ℤ, pos, neg_ℤ, ◌+ℤ◌, ◌*ℤ◌, ◌<ℤ◌, ◌≤ℤ◌}
use Rattle.std.proofs.Common.{refl, sym, ap, subst, ◌∙◌, inl, inr, arith}
use Rattle.std.specs.List.{AllByRecursion}
use Rattle.std.proofs.lemmas.Int.{by_lt_z}
use Rattle.definitions.proofs.Ring.{linear, zero-mulℤ, mul-oneℤ, mul-leℤ, mul-ltℤ, mul-le_cancelℤ, mul-nonnegativeℤ}
use Rattle.definitions.proofs.Ring.{mul-positiveℤ}
use Rattle.definitions.proofs.Members.{sum_below-front, sum_below-zero}
use Rattle.definitions.proofs.Alls.{all_weaken, all_both, all_with, all_join, all_left, all_right}
use Rattle.definitions.proofs.Cases.{less_or_last}
use Rattle.law_duality.proofs.Elimination.{Row, value_at, Meets, IsClosed, Point, Contradiction, heads, Parts, parts}
use Rattle.law_duality.proofs.Elimination.{Without, crossed, pairs, pairs_without, from_pairs, without_closed}
use Rattle.law_duality.proofs.Elimination.{lengthened}
use Rattle.law_duality.proofs.Elimination.{least_of, longer, to_longer, value_combined}
use Rattle.theorems.proofs.Products.{products, sorted_products}

-- a point over a positive number, and the rows are met
abbrev pub In : ℕ → List Row → Row → Type 0
In n us y = (pos 1 ≤ℤ y 0) × AllByRecursion (Meets (suc n) y) us

-- no point of P has a lesser fraction of unknown 1 over unknown 0
abbrev pub IsLow : (Row → Type 0) → Row → Type 0
IsLow P x = (y : Row) → P y → (x 1 *ℤ y 0) ≤ℤ (y 1 *ℤ x 0)

-- the fraction is below a/b
abbrev pub IsUnder : ℤ → ℤ → Row → Type 0
IsUnder a b x = (b *ℤ x 1) <ℤ (a *ℤ x 0)

abbrev pub Ends : (Row → Type 0) → ℤ → ℤ → Row → Type 0
Ends P a b x = IsLow P x ⊎ IsUnder a b x

record Found (n : ℕ) (us : List Row) (E : Row → Type 0) : Type 0 where
  pub point : Point n us
  pub ends : E point.at

-- ---- only unknown 1

value_one : (x u : Row) → value_at 1 x u ≡ u 0 *ℤ x 0
value_one x u = omega (arith, linear)

-- a number of at most 0, below a bound, and at most each first entry
low_enough : (a : ℤ) (us : List Row) → (t : ℤ) × (t ≤ℤ pos 0) × (t <ℤ a) × AllByRecursion (λ (u : Row). t ≤ℤ u 0) us
low_enough a [] =
    by_lt_z (pos 0) a (λ lt. (pos 0, omega (arith, linear), lt, tt))
    (λ le. (a +ℤ neg_ℤ (pos 1), omega (arith, linear, le), omega (arith, linear), tt))
low_enough a (u ∷ us) =
    let r = low_enough a us in
    let t = r.0 in
    by_lt_z t (u 0)
    (λ lt. (t, r.1, r.2, (omega (arith, linear, lt), r.3)))
    (λ le. (
      u 0,
      omega (arith, linear, le, r.1),
      omega (arith, linear, le, r.2),
      (
        omega (arith, linear),
        all_weaken (λ (v : Row). t ≤ℤ v 0) (λ (v : Row). u 0 ≤ℤ v 0) us (λ v h. omega (arith, linear, h, le)) r.3,
      ),
    ))

abbrev one_at : Row
one_at = λ i. pos 1

times_low : (c t : ℤ) → pos 1 ≤ℤ c → t ≤ℤ pos 0 → (c *ℤ t) ≤ℤ t
times_low c t h k =
    let d = mul-nonnegativeℤ (c +ℤ neg_ℤ (pos 1)) (neg_ℤ t) (omega (arith, linear, h)) (omega (arith, linear, k)) in
    let e : (c +ℤ neg_ℤ (pos 1)) *ℤ neg_ℤ t ≡ t +ℤ neg_ℤ (c *ℤ t) = omega products in
    omega (arith, linear, d, e)

-- where no row bounds unknown 1 from below, it can be under each bound
under_all : (C : Row → Type 0) (us : List Row) (r : Parts 1 C us) (P : Row → Type 0) (a b : ℤ) → pos 1 ≤ℤ b
    → r.ps ≡ [] → AllByRecursion (λ (u : Row). pos 0 ≤ℤ u 0) r.zs → Found 1 us (Ends P a b)
under_all C us r P a b hb none flat =
    let k = low_enough a r.ns in
    let t = k.0 in
    let x = longer 1 (pos 1) t one_at in
    let empty : AllByRecursion (Meets 2 x) r.ps =
    subst (λ (ps : List Row). AllByRecursion (Meets 2 x) ps) (sym none) tt in
    let down = to_longer 1 (pos 1) t one_at r.ns
    (all_with (λ (u : Row). t ≤ℤ u 0) (λ (u : Row). C u × (u 1 <ℤ pos 0))
    (λ (u : Row). pos 0 ≤ℤ (pos 1 *ℤ value_at 1 one_at u +ℤ u 1 *ℤ t)) r.ns
    (λ u le neg. omega (
      products,
      le,
      times_low (neg_ℤ (u 1)) t (omega (arith, linear, neg.1)) k.1,
    )) k.3 r.negative) in
    let level = to_longer 1 (pos 1) t one_at r.zs
    (all_with (λ (u : Row). pos 0 ≤ℤ u 0) (λ (u : Row). C u × (u 1 ≡ pos 0))
    (λ (u : Row). pos 0 ≤ℤ (pos 1 *ℤ value_at 1 one_at u +ℤ u 1 *ℤ t)) r.zs
    (λ u le zero. omega (products, le, ap (λ (z : ℤ). z *ℤ t) zero.1)) flat r.none) in
    record {
      point = record { at = x; unit = omega products; meets = r.back x empty down level };
      ends = inr (omega (products, times_low b t hb k.1, k.2));
    }

-- the row of least fraction is met with equality there
low_by_row : (P : Row → Type 0) (x m : Row) → pos 0 <ℤ m 1 → pos 1 ≤ℤ x 0 → m 0 *ℤ x 0 +ℤ m 1 *ℤ x 1 ≡ pos 0
    → ((y : Row) → P y → Meets 2 y m) → IsLow P x
low_by_row P x m high hx e meets y hy =
    let le = meets y hy in
    let scaled =
    mul-nonnegativeℤ (x 0) (m 0 *ℤ y 0 +ℤ m 1 *ℤ y 1) (omega (arith, linear, hx)) (omega (arith, linear, le)) in
    mul-le_cancelℤ (m 1) (x 1 *ℤ y 0) (y 1 *ℤ x 0) high
    (omega (sorted_products, scaled, ap (◌*ℤ◌ (y 0)) e))

-- where some row does, the least value that they allow
least_by_rows : (C : Row → Type 0) (us : List Row) (r : Parts 1 C us) (P : Row → Type 0)
    → ((u : Row) → C u → (y : Row) → P y → Meets 2 y u) → (p : Row) (ps : List Row) → r.ps ≡ p ∷ ps
    → AllByRecursion (λ (u : Row). pos 0 ≤ℤ u 0) (r.zs ++ pairs 1 r.ps r.ns) → (a b : ℤ) → Found 1 us (Ends P a b)
least_by_rows C us r P sound p ps e heads_low a b =
    let crossings = from_pairs 1 (λ (u : Row). pos 0 ≤ℤ u 0) r.ps r.ns
    (all_right (λ (u : Row). pos 0 ≤ℤ u 0) r.zs (pairs 1 r.ps r.ns) heads_low) in
    let Q : Row → Type 0 =
    λ (u : Row). (C u × (pos 0 <ℤ u 1)) × AllByRecursion (λ (q : Row). pos 0 ≤ℤ crossed 1 u q 0) r.ns in
    let both : AllByRecursion Q (p ∷ ps) = subst (λ (vs : List Row). AllByRecursion Q vs) e
    (all_both (λ (u : Row). C u × (pos 0 <ℤ u 1))
    (λ (u : Row). AllByRecursion (λ (q : Row). pos 0 ≤ℤ crossed 1 u q 0) r.ns) r.ps r.positive crossings) in
    let s = least_of (λ u. u 0) (λ u. u 1) Q (λ u q. q.0.1) p ps both.0 both.1 in
    let m = s.row in
    let by = m 1 in
    let last = neg_ℤ (m 0) in
    let x = longer 1 by last one_at in
    let up = to_longer 1 by last one_at (p ∷ ps)
    (all_weaken (λ (v : Row). (m 0 *ℤ v 1) ≤ℤ (v 0 *ℤ m 1))
    (λ (u : Row). pos 0 ≤ℤ (by *ℤ value_at 1 one_at u +ℤ u 1 *ℤ last)) (p ∷ ps)
    (λ v le. omega (sorted_products, le, ap (◌*ℤ◌ (m 1)) (value_one one_at v ∙ mul-oneℤ (v 0)))) s.least) in
    let ups : AllByRecursion (Meets 2 x) r.ps = subst (λ (vs : List Row). AllByRecursion (Meets 2 x) vs) (sym e) up in
    let down = to_longer 1 by last one_at r.ns
    (all_weaken (λ (q : Row). pos 0 ≤ℤ crossed 1 m q 0)
    (λ (u : Row). pos 0 ≤ℤ (by *ℤ value_at 1 one_at u +ℤ u 1 *ℤ last)) r.ns
    (λ v le. omega (products, le, ap (◌*ℤ◌ (m 1)) (value_one one_at v ∙ mul-oneℤ (v 0)))) s.holds.1) in
    let level = to_longer 1 by last one_at r.zs
    (all_with (λ (u : Row). pos 0 ≤ℤ u 0) (λ (u : Row). C u × (u 1 ≡ pos 0))
    (λ (u : Row). pos 0 ≤ℤ (by *ℤ value_at 1 one_at u +ℤ u 1 *ℤ last)) r.zs
    (λ u le zero. omega (
      products,
      mul-nonnegativeℤ by (u 0) (omega (arith, linear, s.holds.0.1)) le,
      ap (λ (z : ℤ). z *ℤ last) zero.1,
      ap (◌*ℤ◌ (m 1)) (value_one one_at u ∙ mul-oneℤ (u 0)),
    ))
    (all_left (λ (u : Row). pos 0 ≤ℤ u 0) r.zs (pairs 1 r.ps r.ns) heads_low) r.none) in
    let unit : pos 1 ≤ℤ x 0 = omega (products, s.holds.0.1) in
    record {
      point = record { at = x; unit = unit; meets = r.back x ups down level };
      ends =
          inl
          (low_by_row P x m s.holds.0.1 unit
          (omega sorted_products) (sound m s.holds.0.0));
    }

-- ---- one unknown after the other

abbrev Finds : (Row → Type 0) → ℤ → ℤ → ℕ → Type 1
Finds P a b n =
    (C : Row → Type 0) → IsClosed C → ((u : Row) → C u → (y : Row) → P y → Meets (suc n) y u) → (us : List Row)
    → AllByRecursion C us → Found n us (Ends P a b) ⊎ Contradiction n C

first_unknown : (P : Row → Type 0) (a b : ℤ) → pos 1 ≤ℤ b → Finds P a b 1
first_unknown P a b hb C closed sound us h =
    let r = parts 1 C us h in
    elim
    (heads (Without 1 C) (r.zs ++ pairs 1 r.ps r.ns)
    (all_join (Without 1 C) r.zs (pairs 1 r.ps r.ns) r.none
    (pairs_without 1 C closed r.ps r.ns r.positive r.negative))) [
      | inl low ↦ inl (by_cases r low r.ps refl)
      | inr none ↦ inr (record {
        row = none.row;
        made = none.made.0;
        negative = none.negative;
        zeros = λ i low high. let e : i ≡ 1 = omega arith in rw e none.made.1;
      })
    ]
  where
    by_cases : (r : Parts 1 C us) → AllByRecursion (λ (u : Row). pos 0 ≤ℤ u 0) (r.zs ++ pairs 1 r.ps r.ns)
        → (ps : List Row) → r.ps ≡ ps → Found 1 us (Ends P a b)
    by_cases r low [] e =
        under_all C us r P a b hb e (all_left (λ (u : Row). pos 0 ≤ℤ u 0) r.zs (pairs 1 r.ps r.ns) low)
    by_cases r low (p ∷ ps) e = least_by_rows C us r P sound p ps e low a b

low_longer : (P : Row → Type 0) (by : ℤ) (x z : Row) → pos 0 <ℤ by → z 0 ≡ by *ℤ x 0 → z 1 ≡ by *ℤ x 1 → IsLow P x
    → IsLow P z
low_longer P by x z h e f low y hy =
    let le = mul-leℤ by (x 1 *ℤ y 0) (y 1 *ℤ x 0) (omega (arith, linear, h)) (low y hy) in
    omega (sorted_products, le, ap (λ (t : ℤ). t *ℤ y 0) f, ap (◌*ℤ◌ (y 1)) e)

under_longer : (a b by : ℤ) (x z : Row) → pos 0 <ℤ by → z 0 ≡ by *ℤ x 0 → z 1 ≡ by *ℤ x 1 → IsUnder a b x
    → IsUnder a b z
under_longer a b by x z h e f under =
    omega (sorted_products, mul-ltℤ by (b *ℤ x 1) (a *ℤ x 0) h under, ap (◌*ℤ◌ b) f, ap (◌*ℤ◌ a) e)

one_unknown_more : (P : Row → Type 0) (a b : ℤ) (n : ℕ) → 1 ≤ n → Finds P a b n → Finds P a b (suc n)
one_unknown_more P a b n some ih C closed sound us h =
    let m = suc n in
    let r = parts m C us h in
    elim
    (ih (Without m C) (without_closed m C closed) smaller (r.zs ++ pairs m r.ps r.ns)
    (all_join (Without m C) r.zs (pairs m r.ps r.ns) r.none
    (pairs_without m C closed r.ps r.ns r.positive r.negative))) [
      | inl found ↦
          let x = found.point.at in
          let l = lengthened n C us r found.point in
          let e = l.same 0 (omega arith) in
          let f = l.same 1 (omega arith) in
          inl
          (record {
            point = l.point;
            ends =
                elim found.ends [
                  | inl low ↦ inl (low_longer P l.by x l.point.at l.positive e f low)
                  | inr under ↦ inr (under_longer a b l.by x l.point.at l.positive e f under)
                ];
          })
      | inr none ↦ inr (record {
        row = none.row;
        made = none.made.0;
        negative = none.negative;
        zeros = λ i low high. elim (less_or_last i m high)
            [ inl less ↦ none.zeros i low less | inr same ↦ rw same none.made.1 ];
      })
    ]
  where
    smaller : (u : Row) → Without (suc n) C u → (y : Row) → P y → Meets (suc n) y u
    smaller u w y hy = omega (products, sound u w.0 y hy, ap (λ (z : ℤ). z *ℤ y (suc n)) w.1)

finds : (P : Row → Type 0) (a b : ℤ) → pos 1 ≤ℤ b → (n : ℕ) → Finds P a b (suc n)
finds P a b hb zero = first_unknown P a b hb
finds P a b hb (suc n) = one_unknown_more P a b (suc n) (omega arith) (finds P a b hb n)

-- ---- with a point there is no contradiction

abbrev Sound : ℕ → List Row → Row → Type 0
Sound n us u = (y : Row) → In n us y → Meets (suc n) y u

sound_closed : (n : ℕ) (us : List Row) → IsClosed (Sound n us)
sound_closed n us a b u v ha hb hu hv y hy =
    omega (
      products,
      value_combined (suc n) y a b u v,
      mul-nonnegativeℤ a (value_at (suc n) y u) ha (hu y hy),
      mul-nonnegativeℤ b (value_at (suc n) y v) hb (hv y hy),
    )

sound_rows : (n : ℕ) (us vs : List Row) → ((y : Row) → In n us y → AllByRecursion (Meets (suc n) y) vs)
    → AllByRecursion (Sound n us) vs
sound_rows n us [] h = tt
sound_rows n us (v ∷ vs) h = ((λ y hy. (h y hy).0), sound_rows n us vs (λ y hy. (h y hy).1))

none_contradicts : (n : ℕ) (us : List Row) (z : Row) → In n us z → Contradiction n (Sound n us) → ⊥
none_contradicts n us z hz c =
    let u = c.row in
    let rest = sum_below-zero n (λ i. u (suc i) *ℤ z (suc i))
    (λ i lt. ap (λ (t : ℤ). t *ℤ z (suc i)) (c.zeros (suc i) (omega arith) (omega arith))
    ∙ zero-mulℤ (z (suc i))) in
    let negative = mul-positiveℤ (neg_ℤ (u 0)) (z 0) (omega (arith, linear, c.negative))
    (omega (arith, linear, hz.0)) in
    omega (products, c.made z hz, sum_below-front n (λ i. u i *ℤ z i), rest, negative)

-- where some point meets the rows, one has the least fraction of unknown 1, or one below a/b
pub least_value : (n : ℕ) (us : List Row) (z : Row) → In (suc n) us z → (a b : ℤ) → pos 1 ≤ℤ b
    → (x : Row) × In (suc n) us x × Ends (In (suc n) us) a b x
least_value n us z hz a b hb =
    let m = suc n in
    elim
    (finds (In m us) a b hb n (Sound m us) (sound_closed m us) (λ u h. h) us (sound_rows m us us (λ y hy. hy.1))) [
      | inl found ↦ (found.point.at, (found.point.unit, found.point.meets), found.ends)
      | inr none ↦ absurd (none_contradicts m us z hz none)
    ]
