-- Linear inequalities with integer coefficients, by eliminating one unknown after the other (Fourier 1826; Motzkin
-- 1936).
--
-- A row u asks of a point x that u 0 * x 0 + .. + u n * x n be at least 0, where x 0 is at least 1. So x i over x 0 are
-- fractions. Either some point meets all rows, or one row that combines them by factors of at least 0 has a negative
-- first entry and no other.
--
-- Each row with a positive coefficient at the last unknown is crossed with each that has a negative one. A point of the
-- smaller system is lengthened by the greatest lower bound, which the crossed rows put below each upper bound
-- (`eliminate`). This speaks of any set of rows that is closed under combinations, and knows nothing of factors;
-- Farkas.antt takes the set of what factors make of the rows.
use Rattle.std.proofs.Common.{◌≡◌, ◌⊎◌, ℕ, zero, suc, ◌<◌, List, [], ◌∷◌, ◌++◌, ℤ, pos, neg_ℤ, ◌+ℤ◌, ◌*ℤ◌, ◌<ℤ◌, ◌≤ℤ◌}
use Rattle.std.proofs.Common.{refl, ap, inl, inr, arith, nat_eq, if◌then◌else◌}
use Rattle.std.specs.List.{AllByRecursion}
use Rattle.std.proofs.lemmas.Int.{by_lt_z}
use Rattle.definitions.proofs.Ring.{linear, mul_left_commℤ, mul-leℤ, mul-le_cancelℤ, mul-nonnegativeℤ, mul-positiveℤ}
use Rattle.definitions.proofs.Members.{sum_below-same, sum_below-add, sum_below-times}
use Rattle.definitions.proofs.Alls.{all_weaken, all_both, all_with, all_join, all_left, all_right}
use Rattle.definitions.proofs.Cases.{nat_eq-same, nat_eq-other, less_or_last}
use Rattle.definitions.specs.Sums.{sum_below}
use Rattle.theorems.proofs.Products.{products, sorted_products}
use Rattle.law_duality.proofs.BySign.{BySign, by_sign}

-- an entry for each unknown; a number for each
abbrev pub Row : Type 0
Row = ℕ → ℤ

-- the first n entries at a point
abbrev pub value_at : ℕ → Row → Row → ℤ
value_at n x u = sum_below n (λ i. u i *ℤ x i)

-- the point meets the row
abbrev pub Meets : ℕ → Row → Row → Type 0
Meets n x u = pos 0 ≤ℤ value_at n x u

-- a times one row and b times another
abbrev pub combined : ℤ → ℤ → Row → Row → Row
combined a b u v = λ i. a *ℤ u i +ℤ b *ℤ v i

-- what holds of two rows holds of what combines them
abbrev pub IsClosed : (Row → Type 0) → Type 0
IsClosed C = (a b : ℤ) (u v : Row) → pos 0 ≤ℤ a → pos 0 ≤ℤ b → C u → C v → C (combined a b u v)

-- a point that meets all rows
pub record Point (n : ℕ) (us : List Row) : Type 0 where
  pub at : Row
  pub unit : pos 1 ≤ℤ at 0
  pub meets : AllByRecursion (Meets (suc n) at) us

-- a row that no point meets
pub record Contradiction (n : ℕ) (C : Row → Type 0) : Type 0 where
  pub row : Row
  pub made : C row
  pub negative : row 0 <ℤ pos 0
  pub zeros : (i : ℕ) → 0 < i → i < suc n → row i ≡ pos 0

-- ---- no unknowns

pub heads : (C : Row → Type 0) (us : List Row) → AllByRecursion C us
    → AllByRecursion (λ (u : Row). pos 0 ≤ℤ u 0) us ⊎ Contradiction 0 C
heads C [] h = inl tt
heads C (u ∷ us) h =
    by_lt_z (u 0) (pos 0)
    (λ lt. inr (record { row = u; made = h.0; negative = lt; zeros = λ i low high. absurd (omega arith) }))
    (λ le. elim (heads C us h.1) [ inl rest ↦ inl (le, rest) | inr found ↦ inr found ])

none_left : (C : Row → Type 0) (us : List Row) → AllByRecursion C us → Point 0 us ⊎ Contradiction 0 C
none_left C us h = elim (heads C us h) [
  | inl low ↦ inl
      (record {
        at = λ i. pos 1;
        unit = omega (arith, linear);
        meets =
            all_weaken (λ (u : Row). pos 0 ≤ℤ u 0) (Meets 1 (λ i. pos 1)) us
            (λ u le. omega (products, le)) low;
      })
  | inr found ↦ inr found
]

-- ---- the rows by the sign of an entry

abbrev pub Parts : ℕ → (Row → Type 0) → List Row → Type 0
Parts n C us = BySign (λ (u : Row). u n) C (Meets (suc n)) us

pub parts : (n : ℕ) (C : Row → Type 0) (us : List Row) → AllByRecursion C us → Parts n C us
parts n C us h = by_sign (λ (u : Row). u n) C (Meets (suc n)) us h

-- ---- each row of positive entry with each of negative entry

abbrev pub crossed : ℕ → Row → Row → Row
crossed n p q = combined (neg_ℤ (q n)) (p n) p q

abbrev pub pairs_with : ℕ → Row → List Row → List Row
pairs_with n p [] = []
pairs_with n p (q ∷ qs) = crossed n p q ∷ pairs_with n p qs

abbrev pub pairs : ℕ → List Row → List Row → List Row
pairs n [] qs = []
pairs n (p ∷ ps) qs = pairs_with n p qs ++ pairs n ps qs

-- what is closed, and has no entry there
abbrev pub Without : ℕ → (Row → Type 0) → Row → Type 0
Without n C u = C u × (u n ≡ pos 0)

crossed_without : (n : ℕ) (C : Row → Type 0) → IsClosed C → (p q : Row) → C p × (pos 0 <ℤ p n)
    → C q × (q n <ℤ pos 0) → Without n C (crossed n p q)
crossed_without n C closed p q h k = (
  closed (neg_ℤ (q n)) (p n) p q (omega (arith, linear, k.1)) (omega (arith, linear, h.1)) h.0 k.0,
  omega sorted_products,
)

pairs_with_without : (n : ℕ) (C : Row → Type 0) → IsClosed C → (p : Row) (qs : List Row) → C p × (pos 0 <ℤ p n)
    → AllByRecursion (λ (u : Row). C u × (u n <ℤ pos 0)) qs → AllByRecursion (Without n C) (pairs_with n p qs)
pairs_with_without n C closed p [] h k = tt
pairs_with_without n C closed p (q ∷ qs) h k =
    (crossed_without n C closed p q h k.0, pairs_with_without n C closed p qs h k.1)

pub pairs_without : (n : ℕ) (C : Row → Type 0) → IsClosed C → (ps qs : List Row)
    → AllByRecursion (λ (u : Row). C u × (pos 0 <ℤ u n)) ps → AllByRecursion (λ (u : Row). C u × (u n <ℤ pos 0)) qs
    → AllByRecursion (Without n C) (pairs n ps qs)
pairs_without n C closed [] qs h k = tt
pairs_without n C closed (p ∷ ps) qs h k =
    all_join (Without n C) (pairs_with n p qs) (pairs n ps qs) (pairs_with_without n C closed p qs h.0 k)
    (pairs_without n C closed ps qs h.1 k)

from_pairs_with : (n : ℕ) (Q : Row → Type 0) (p : Row) (qs : List Row) → AllByRecursion Q (pairs_with n p qs)
    → AllByRecursion (λ (q : Row). Q (crossed n p q)) qs
from_pairs_with n Q p [] h = tt
from_pairs_with n Q p (q ∷ qs) h = (h.0, from_pairs_with n Q p qs h.1)

pub from_pairs : (n : ℕ) (Q : Row → Type 0) (ps qs : List Row) → AllByRecursion Q (pairs n ps qs)
    → AllByRecursion (λ (p : Row). AllByRecursion (λ (q : Row). Q (crossed n p q)) qs) ps
from_pairs n Q [] qs h = tt
from_pairs n Q (p ∷ ps) qs h = (
  from_pairs_with n Q p qs (all_left Q (pairs_with n p qs) (pairs n ps qs) h),
  from_pairs n Q ps qs (all_right Q (pairs_with n p qs) (pairs n ps qs) h),
)

pub without_closed : (n : ℕ) (C : Row → Type 0) → IsClosed C → IsClosed (Without n C)
without_closed n C closed a b u v h k p q = (
  closed a b u v h k p.0 q.0,
  omega (products, ap (◌*ℤ◌ a) p.1, ap (◌*ℤ◌ b) q.1),
)

-- ---- the least of fractions

fractions_ascend : (a b c p q r : ℤ) → pos 0 <ℤ p → pos 0 <ℤ q → pos 0 <ℤ r → (a *ℤ q) ≤ℤ (b *ℤ p)
    → (b *ℤ r) ≤ℤ (c *ℤ q) → (a *ℤ r) ≤ℤ (c *ℤ p)
fractions_ascend a b c p q r hp hq hr h k =
    let one = mul-leℤ r (a *ℤ q) (b *ℤ p) (omega (arith, linear)) h in
    let two = mul-leℤ p (b *ℤ r) (c *ℤ q) (omega (arith, linear)) k in
    mul-le_cancelℤ q (a *ℤ r) (c *ℤ p) hq (omega (sorted_products, one, two))

-- a row whose fraction is at most that of each
pub record Least (e c : Row → ℤ) (Q : Row → Type 0) (us : List Row) : Type 0 where
  pub row : Row
  pub holds : Q row
  pub least : AllByRecursion (λ (v : Row). (e row *ℤ c v) ≤ℤ (e v *ℤ c row)) us

pub least_of : (e c : Row → ℤ) (Q : Row → Type 0) → ((v : Row) → Q v → pos 0 <ℤ c v) → (u : Row) (us : List Row)
    → Q u → AllByRecursion Q us → Least e c Q (u ∷ us)
least_of e c Q above u [] h k = record { row = u; holds = h; least = (omega (arith, linear), tt) }
least_of e c Q above u (v ∷ us) h k =
    let r = least_of e c Q above v us k.0 k.1 in
    let m = r.row in
    by_lt_z (e u *ℤ c m) (e m *ℤ c u)
    (λ lt. record {
      row = u;
      holds = h;
      least = (
        omega (arith, linear),
        all_with (λ (w : Row). (e m *ℤ c w) ≤ℤ (e w *ℤ c m)) Q (λ (w : Row). (e u *ℤ c w) ≤ℤ (e w *ℤ c u))
            (v ∷ us)
            (λ w le q. fractions_ascend (e u) (e m) (e w) (c u) (c m) (c w) (above u h) (above m r.holds)
            (above w q) (omega (arith, linear, lt)) le) r.least k,
      );
    })
    (λ le. record { row = m; holds = r.holds; least = (le, r.least) })

-- ---- a value of the next unknown

-- by a factor and a value the rows are met
pub record Next (n : ℕ) (x : Row) (ps qs : List Row) : Type 0 where
  pub by : ℤ
  pub last : ℤ
  pub positive : pos 0 <ℤ by
  pub above : AllByRecursion (λ (u : Row). pos 0 ≤ℤ (by *ℤ value_at n x u +ℤ u n *ℤ last)) ps
  pub below : AllByRecursion (λ (u : Row). pos 0 ≤ℤ (by *ℤ value_at n x u +ℤ u n *ℤ last)) qs

pub value_combined : (n : ℕ) (x : Row) (a b : ℤ) (u v : Row)
    → value_at n x (combined a b u v) ≡ a *ℤ value_at n x u +ℤ b *ℤ value_at n x v
value_combined n x a b u v =
    let same = sum_below-same n (λ i. (a *ℤ u i +ℤ b *ℤ v i) *ℤ x i) (λ i. a *ℤ (u i *ℤ x i) +ℤ b *ℤ (v i *ℤ x i))
    (λ i h. omega sorted_products) in
    let split = sum_below-add n (λ i. a *ℤ (u i *ℤ x i)) (λ i. b *ℤ (v i *ℤ x i)) in
    omega (arith, linear, same, split, sum_below-times n (λ i. u i *ℤ x i) a, sum_below-times n (λ i. v i *ℤ x i) b)

pub next : (n : ℕ) (x : Row) (ps qs : List Row) → AllByRecursion (λ (u : Row). pos 0 <ℤ u n) ps
    → AllByRecursion (λ (u : Row). u n <ℤ pos 0) qs
    → AllByRecursion (λ (p : Row). AllByRecursion (λ (q : Row). Meets n x (crossed n p q)) qs) ps → Next n x ps qs
next n x [] [] h k pairs =
    record { by = pos 1; last = pos 0; positive = omega (arith, linear); above = tt; below = tt }
next n x [] (q ∷ qs) h k pairs =
    let r =
    least_of (value_at n x) (λ u. neg_ℤ (u n)) (λ (u : Row). u n <ℤ pos 0) (λ u lt. omega (arith, linear, lt)) q
    qs k.0 k.1 in
    let m = r.row in
    record {
      by = neg_ℤ (m n);
      last = value_at n x m;
      positive = omega (arith, linear, r.holds);
      above = tt;
      below =
          all_weaken (λ (v : Row). (value_at n x m *ℤ neg_ℤ (v n)) ≤ℤ (value_at n x v *ℤ neg_ℤ (m n)))
          (λ (u : Row). pos 0 ≤ℤ (neg_ℤ (m n) *ℤ value_at n x u +ℤ u n *ℤ value_at n x m)) (q ∷ qs)
          (λ v le. omega (sorted_products, le)) r.least;
    }
next n x (p ∷ ps) qs h k pairs =
    let r = least_of (value_at n x) (λ u. u n)
    (λ (u : Row). (pos 0 <ℤ u n) × AllByRecursion (λ (q : Row). Meets n x (crossed n u q)) qs) (λ u q. q.0) p
    ps (h.0, pairs.0)
    (all_both (λ (u : Row). pos 0 <ℤ u n)
    (λ (p : Row). AllByRecursion (λ (q : Row). Meets n x (crossed n p q)) qs) ps h.1 pairs.1) in
    let m = r.row in
    record {
      by = m n;
      last = neg_ℤ (value_at n x m);
      positive = r.holds.0;
      above =
          all_weaken (λ (v : Row). (value_at n x m *ℤ v n) ≤ℤ (value_at n x v *ℤ m n))
          (λ (u : Row). pos 0 ≤ℤ (m n *ℤ value_at n x u +ℤ u n *ℤ neg_ℤ (value_at n x m))) (p ∷ ps)
          (λ v le. omega (sorted_products, le)) r.least;
      below =
          all_weaken (λ (q : Row). Meets n x (crossed n m q))
          (λ (u : Row). pos 0 ≤ℤ (m n *ℤ value_at n x u +ℤ u n *ℤ neg_ℤ (value_at n x m))) qs
          (λ v le. omega (products, le, value_combined n x (neg_ℤ (v n)) (m n) m v)) r.holds.1;
    }

-- ---- the point with one more number

abbrev pub longer : ℕ → ℤ → ℤ → Row → Row
longer n by last x = λ i. if nat_eq i n then last else by *ℤ x i

pub value_longer : (n : ℕ) (by last : ℤ) (x u : Row)
    → value_at (suc n) (longer n by last x) u ≡ by *ℤ value_at n x u +ℤ u n *ℤ last
value_longer n by last x u =
    let low = sum_below-same n (λ i. u i *ℤ longer n by last x i) (λ i. by *ℤ (u i *ℤ x i))
    (λ i h. rw (nat_eq-other i n (λ e. omega arith)) (mul_left_commℤ (u i) by (x i))) in
    let here : u n *ℤ longer n by last x n ≡ u n *ℤ last = rw (nat_eq-same n) refl in
    omega (arith, linear, low, here, sum_below-times n (λ i. u i *ℤ x i) by)

pub to_longer : (n : ℕ) (by last : ℤ) (x : Row) (us : List Row)
    → AllByRecursion (λ (u : Row). pos 0 ≤ℤ (by *ℤ value_at n x u +ℤ u n *ℤ last)) us
    → AllByRecursion (Meets (suc n) (longer n by last x)) us
to_longer n by last x us h =
    all_weaken (λ (u : Row). pos 0 ≤ℤ (by *ℤ value_at n x u +ℤ u n *ℤ last)) (Meets (suc n) (longer n by last x)) us
    (λ u le. omega (arith, linear, le, value_longer n by last x u)) h

-- ---- one unknown after the other

abbrev Eliminates : ℕ → Type 1
Eliminates n =
    (C : Row → Type 0) → IsClosed C → (us : List Row) → AllByRecursion C us → Point n us ⊎ Contradiction n C

-- a point of one number more, whose others are those of x times a factor
pub record Longer (n : ℕ) (us : List Row) (x : Row) : Type 0 where
  pub point : Point (suc n) us
  pub by : ℤ
  pub positive : pos 0 <ℤ by
  pub same : (i : ℕ) → i < suc n → point.at i ≡ by *ℤ x i

pub lengthened : (n : ℕ) (C : Row → Type 0) (us : List Row) → (r : Parts (suc n) C us)
    → (found : Point n (r.zs ++ pairs (suc n) r.ps r.ns)) → Longer n us found.at
lengthened n C us r found =
    let m = suc n in
    let x = found.at in
    let crossings = from_pairs m (Meets m x) r.ps r.ns (all_right (Meets m x) r.zs (pairs m r.ps r.ns) found.meets) in
    let up =
    all_weaken (λ (u : Row). C u × (pos 0 <ℤ u m)) (λ (u : Row). pos 0 <ℤ u m) r.ps (λ u h. h.1) r.positive in
    let down =
    all_weaken (λ (u : Row). C u × (u m <ℤ pos 0)) (λ (u : Row). u m <ℤ pos 0) r.ns (λ u h. h.1) r.negative in
    let k = next m x r.ps r.ns up down crossings in
    let flat = all_with (Meets m x) (λ (u : Row). C u × (u m ≡ pos 0))
    (λ (u : Row). pos 0 ≤ℤ (k.by *ℤ value_at m x u +ℤ u m *ℤ k.last)) r.zs
    (λ u le h. omega (
      products,
      mul-nonnegativeℤ k.by (value_at m x u) (omega (arith, linear, k.positive)) le,
      ap (λ (z : ℤ). z *ℤ k.last) h.1,
    ))
    (all_left (Meets m x) r.zs (pairs m r.ps r.ns) found.meets) r.none in
    let first : longer m k.by k.last x 0 ≡ k.by *ℤ x 0 = rw (nat_eq-other 0 m (λ e. omega arith)) refl in
    record {
      point = record {
        at = longer m k.by k.last x;
        unit = omega (arith, linear, first, mul-positiveℤ k.by (x 0) k.positive (omega (arith, linear, found.unit)));
        meets =
            r.back (longer m k.by k.last x) (to_longer m k.by k.last x r.ps k.above)
            (to_longer m k.by k.last x r.ns k.below) (to_longer m k.by k.last x r.zs flat);
      };
      by = k.by;
      positive = k.positive;
      same = λ i lt. rw (nat_eq-other i m (λ e. omega arith)) refl;
    }

one_more : (n : ℕ) → Eliminates n → Eliminates (suc n)
one_more n ih C closed us h =
    let m = suc n in
    let r = parts m C us h in
    elim
    (ih (Without m C) (without_closed m C closed) (r.zs ++ pairs m r.ps r.ns)
    (all_join (Without m C) r.zs (pairs m r.ps r.ns) r.none
    (pairs_without m C closed r.ps r.ns r.positive r.negative))) [
      | inl found ↦ inl (lengthened n C us r found).point
      | inr none ↦ inr (record {
        row = none.row;
        made = none.made.0;
        negative = none.negative;
        zeros = λ i low high. elim (less_or_last i m high)
            [ inl less ↦ none.zeros i low less | inr same ↦ rw same none.made.1 ];
      })
    ]

-- a point that meets all rows, or a row that no point meets
pub eliminate : (n : ℕ) → Eliminates n
eliminate zero C closed us h = none_left C us h
eliminate (suc n) C closed us h = one_more n (eliminate n) C closed us h
