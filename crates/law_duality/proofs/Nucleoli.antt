-- The nucleolus exists: the excesses are linear forms on the points that are members of the family.
use Rattle.std.proofs.Common.{◌≡◌, ◌⊎◌, ℕ, zero, suc, ◌+◌, ◌-◌, ◌^◌, ◌<◌, ◌≤◌, Bool, cond, List, [], ◌∷◌, map, ℤ, pos}
use Rattle.std.proofs.Common.{neg_ℤ, ◌+ℤ◌, ◌-ℤ◌, ◌*ℤ◌, ◌≤ℤ◌, refl, sym, ap, subst, ◌∙◌, inl, inr, arith, nat_eq}
use Rattle.std.proofs.Common.{if◌then◌else◌}
use Rattle.std.specs.List.{AllByRecursion}
use Rattle.definitions.proofs.Ring.{linear, ring_laws, zero-mulℤ, one-mulℤ, neg-mulℤ, mul-cancelℤ, mul-le_cancelℤ}
use Rattle.definitions.proofs.Members.{sum_below-same, sum_below-add, sum_below-times, sum_below-front}
use Rattle.definitions.proofs.Members.{sum_over-grand_coalition, sum_over-singleton, sum_over-complement, scaled_either}
use Rattle.definitions.proofs.Masks.{grand_coalition-within, singleton-within, proper_or_all}
use Rattle.definitions.proofs.Measured.{weight, measured-weight, weight-positive}
use Rattle.definitions.proofs.Families.{allocation_of, efficient_of}
use Rattle.definitions.proofs.Cases.{below_or_above, less_or_last}
use Rattle.definitions.specs.Sums.{sum_below}
use Rattle.definitions.specs.Coalitions.{has_player, singleton, grand_coalition, proper_coalitions, sum_over}
use Rattle.definitions.specs.Measures.{IsMeasurable}
use Rattle.definitions.specs.Games.{Game, Allocation, share, excess, measured_excess, Beats, IsAllocation, IsEfficient}
use Rattle.definitions.specs.Games.{InFamily, IsNucleolus}
use Rattle.definitions.specs.declared.Family.{Family}
use Rattle.definitions.specs.declared.Family.TheVariants.{Imputations, Preimputations}
use Rattle.definitions.specs.declared.Measure.{Measure}
use Rattle.definitions.specs.declared.Measure.TheVariants.{Plain}
use Rattle.law_duality.specs.Existence.{NucleoliExist, PrenucleoliExist, ImputationsExist}
use Rattle.theorems.proofs.SortedLemmas.{ComesBefore-sorted}
use Rattle.theorems.proofs.Soundness.{SameOrLow-range, SomeAbove-range}
use Rattle.law_duality.proofs.Elimination.{Row, Meets}
use Rattle.definitions.proofs.Parts.{sum_below-le}
use Rattle.definitions.proofs.SumsOver.{amount-at}
use Rattle.law_duality.proofs.Farkas.{unit_at, sum_below-unit}
use Rattle.law_duality.proofs.LeastValues.{In}
use Rattle.law_duality.proofs.Levels.{val, Flat}
use Rattle.law_duality.proofs.LevelByLevel.{Better, Agree, Paired, first_point}
use Rattle.law_duality.proofs.BondarevaShapley.{listed_length, listed_at, point, amount_point}
use Rattle.std.proofs.Math.Nat.{le_refl}
use Rattle.theorems.proofs.Products.{products, sorted_products}

-- ---- rows: the denominator, the level, and the shares behind them

abbrev pub asks : ℤ → (ℕ → ℤ) → Row
asks c f zero = c
asks c f (suc zero) = pos 0
asks c f (suc (suc i)) = f i

abbrev pub shares_of : Row → ℕ → ℤ
shares_of y i = y (suc (suc i))

pub val_asks : (n : ℕ) (c : ℤ) (f : ℕ → ℤ) (y : Row)
    → val n y (asks c f) ≡ c *ℤ y 0 +ℤ sum_below n (λ i. f i *ℤ shares_of y i)
val_asks n c f y =
    omega (
      products,
      sum_below-front (suc n) (λ i. asks c f i *ℤ y i),
      sum_below-front n (λ i. asks c f (suc i) *ℤ y (suc i)),
    )

-- ---- the excesses

abbrev pub form : Measure → Game → ℕ → Row
form measure g s =
    asks (weight measure s *ℤ g.worth s) (λ i. if has_player s i then neg_ℤ (weight measure s) else pos 0)

sum_form : (n s : ℕ) (w : ℤ) (a : ℕ → ℤ)
    → sum_below n (λ i. (if has_player s i then neg_ℤ w else pos 0) *ℤ a i) ≡ neg_ℤ (w *ℤ sum_over n a s)
sum_form n s w a =
    sum_below-same n (λ i. (if has_player s i then neg_ℤ w else pos 0) *ℤ a i)
    (λ i. neg_ℤ w *ℤ (if has_player s i then a i else pos 0)) (λ i lt. scaled_either (has_player s i) (neg_ℤ w) (a i))
    ∙ sum_below-times n (λ i. if has_player s i then a i else pos 0) (neg_ℤ w) ∙ neg-mulℤ w (sum_over n a s)

pub val_form : (measure : Measure) (g : Game) (s : ℕ) (y : Row)
    → val g.players y (form measure g s)
    ≡ weight measure s *ℤ (y 0 *ℤ g.worth s -ℤ sum_over g.players (shares_of y) s)
val_form measure g s y =
    let w = weight measure s in
    omega (
      sorted_products,
      val_asks g.players (w *ℤ g.worth s) (λ i. if has_player s i then neg_ℤ w else pos 0) y,
      sum_form g.players s w (shares_of y),
    )

-- ---- members of the family as points

abbrev singles : Game → ℕ → List Row
singles g zero = []
singles g (suc k) = asks (neg_ℤ (g.worth (singleton k))) (unit_at k) ∷ singles g k

abbrev enough : Game → Row
enough g = asks (neg_ℤ (g.worth (grand_coalition g.players))) (λ i. pos 1)

abbrev no_more : Game → Row
no_more g = asks (g.worth (grand_coalition g.players)) (λ i. neg_ℤ (pos 1))

abbrev pub base : Family → Game → List Row
base Imputations g = enough g ∷ (no_more g ∷ singles g g.players)
base Preimputations g = enough g ∷ (no_more g ∷ [])

singles_flat : (g : Game) (k : ℕ) → AllByRecursion Flat (singles g k)
singles_flat g zero = tt
singles_flat g (suc k) = (refl, singles_flat g k)

base_flat : (family : Family) (g : Game) → AllByRecursion Flat (base family g)
base_flat family g = grind (arith, singles_flat)

val_enough : (g : Game) (y : Row)
    → val g.players y (enough g)
    ≡ sum_below g.players (shares_of y) +ℤ neg_ℤ (y 0 *ℤ g.worth (grand_coalition g.players))
val_enough g y =
    let v = g.worth (grand_coalition g.players) in
    let same =
    sum_below-same g.players (λ i. pos 1 *ℤ shares_of y i) (shares_of y) (λ i lt. one-mulℤ (shares_of y i)) in
    omega (sorted_products, val_asks g.players (neg_ℤ v) (λ i. pos 1) y, same)

val_no_more : (g : Game) (y : Row)
    → val g.players y (no_more g)
    ≡ y 0 *ℤ g.worth (grand_coalition g.players) +ℤ neg_ℤ (sum_below g.players (shares_of y))
val_no_more g y =
    let v = g.worth (grand_coalition g.players) in
    let times = sum_below-times g.players (shares_of y) (neg_ℤ (pos 1)) in
    omega (sorted_products, val_asks g.players v (λ i. neg_ℤ (pos 1)) y, times)

val_single : (g : Game) (k : ℕ) (y : Row) → k < g.players
    → val g.players y (asks (neg_ℤ (g.worth (singleton k))) (unit_at k))
    ≡ shares_of y k +ℤ neg_ℤ (y 0 *ℤ g.worth (singleton k))
val_single g k y lt =
    let v = g.worth (singleton k) in
    omega (sorted_products, val_asks g.players (neg_ℤ v) (unit_at k) y, sum_below-unit g.players k (shares_of y) lt)

abbrev pub Efficient : Game → Row → Type 0
Efficient g y = sum_below g.players (shares_of y) ≡ y 0 *ℤ g.worth (grand_coalition g.players)

pub to_enough : (g : Game) (y : Row) → Efficient g y → Meets (suc (suc g.players)) y (enough g)
to_enough g y e = omega (arith, linear, e, val_enough g y)

pub to_no_more : (g : Game) (y : Row) → Efficient g y → Meets (suc (suc g.players)) y (no_more g)
to_no_more g y e = omega (arith, linear, e, val_no_more g y)

from_both : (g : Game) (y : Row) → Meets (suc (suc g.players)) y (enough g)
    → Meets (suc (suc g.players)) y (no_more g) → Efficient g y
from_both g y h k = omega (arith, linear, h, k, val_enough g y, val_no_more g y)

efficient_in : (family : Family) (g : Game) (y : Row) → In (suc g.players) (base family g) y → Efficient g y
efficient_in Imputations g y h = from_both g y h.1.0 h.1.1.0
efficient_in Preimputations g y h = from_both g y h.1.0 h.1.1.0

pub to_singles : (g : Game) (y : Row) (k : ℕ) → k ≤ g.players
    → ((i : ℕ) → i < g.players → (y 0 *ℤ g.worth (singleton i)) ≤ℤ shares_of y i)
    → AllByRecursion (Meets (suc (suc g.players)) y) (singles g k)
to_singles g y zero le h = tt
to_singles g y (suc k) le h =
    (omega (arith, linear, h k (omega arith), val_single g k y (omega arith)), to_singles g y k (omega arith) h)

from_singles : (g : Game) (y : Row) (k : ℕ) → k ≤ g.players
    → AllByRecursion (Meets (suc (suc g.players)) y) (singles g k) → (i : ℕ) → i < k
    → (y 0 *ℤ g.worth (singleton i)) ≤ℤ shares_of y i
from_singles g y zero le h i lt = absurd (omega arith)
from_singles g y (suc k) le h i lt = elim (less_or_last i k lt) [
  | inl less ↦ from_singles g y k (omega arith) h.1 i less
  | inr same ↦ rw same (omega (arith, linear, h.0, val_single g k y (omega arith)))
]

-- an efficient point is one of the family where each player gets at least its worth alone, or that isn't asked for
pub point_in : (family : Family) (g : Game) (y : Row) → pos 1 ≤ℤ y 0 → Efficient g y
    → (family ≡ Imputations → (i : ℕ) → i < g.players → (y 0 *ℤ g.worth (singleton i)) ≤ℤ shares_of y i)
    → In (suc g.players) (base family g) y
point_in Imputations g y one e low =
    (one, (to_enough g y e, (to_no_more g y e, to_singles g y g.players (le_refl g.players) (low refl))))
point_in Preimputations g y one e low = (one, (to_enough g y e, (to_no_more g y e, tt)))

-- an allocation as a point, and a point as an allocation
abbrev pub row_of : Allocation → Row
row_of y = asks y.den (share y)

pub efficient_row : (g : Game) (y : Allocation) → IsAllocation g y → IsEfficient g y → Efficient g (row_of y)
efficient_row g y h e =
    sym (sum_over-grand_coalition g.players (share y)) ∙ sym (amount-at g y (grand_coalition g.players) h) ∙ e

pub member_in : (family : Family) (g : Game) (y : Allocation) → InFamily family g y
    → In (suc g.players) (base family g) (row_of y)
member_in Imputations g y h =
    let e = efficient_row g y h.0 h.1 in (
      h.0.1,
      (
        to_enough g (row_of y) e,
        (to_no_more g (row_of y) e, to_singles g (row_of y) g.players (le_refl g.players) h.2),
      ),
    )
member_in Preimputations g y h =
    let e = efficient_row g y h.0 h.1 in
    (h.0.1, (to_enough g (row_of y) e, (to_no_more g (row_of y) e, tt)))

abbrev pub allocation : Game → Row → Allocation
allocation g x = point g.players (shares_of x) (x 0)

efficient_point : (g : Game) (x : Row) → Efficient g x → IsEfficient g (allocation g x)
efficient_point g x e =
    amount_point g.players (shares_of x) (x 0) (grand_coalition g.players)
    ∙ sum_over-grand_coalition g.players (shares_of x) ∙ e

pub in_member : (family : Family) (g : Game) (x : Row) → In (suc g.players) (base family g) x
    → InFamily family g (allocation g x)
in_member Imputations g x h = (
  (listed_length g.players (shares_of x), h.0),
  efficient_point g x (efficient_in Imputations g x h),
  λ i lt.
      let le = from_singles g x g.players (le_refl g.players) h.1.1.1 i lt in
      omega (arith, linear, le, listed_at g.players (shares_of x) i lt),
)
in_member Preimputations g x h =
    ((listed_length g.players (shares_of x), h.0), efficient_point g x (efficient_in Preimputations g x h))

-- the measured excesses are the forms
pub excess_row : (measure : Measure) (g : Game) (y : Allocation) (s : ℕ) → IsAllocation g y
    → measured_excess measure g y s ≡ val g.players (row_of y) (form measure g s)
excess_row measure g y s h =
    measured-weight measure s (excess g y s)
    ∙ ap (λ (t : ℤ). weight measure s *ℤ (y.den *ℤ g.worth s -ℤ t)) (amount-at g y s h)
    ∙ sym (val_form measure g s (row_of y))

excess_point : (measure : Measure) (g : Game) (x : Row) (s : ℕ)
    → measured_excess measure g (allocation g x) s ≡ val g.players x (form measure g s)
excess_point measure g x s =
    measured-weight measure s (excess g (allocation g x) s)
    ∙ ap (λ (t : ℤ). weight measure s *ℤ (x 0 *ℤ g.worth s -ℤ t)) (amount_point g.players (shares_of x) (x 0) s)
    ∙ sym (val_form measure g s x)

-- ---- a coalition and the others are partners

pub weigh_positive : (measure : Measure) (n s : ℕ) → IsMeasurable measure n → 0 < s → s < 2 ^ n
    → pos 1 ≤ℤ weight measure s
weigh_positive measure n s m low high = omega (arith, linear, weight-positive measure n s m low high)

paired_value : (measure : Measure) (g : Game) (s : ℕ) (y : Row) → s < 2 ^ g.players → Efficient g y
    → weight measure (grand_coalition g.players - s) *ℤ val g.players y (form measure g s) +ℤ weight measure s
    *ℤ val g.players y (form measure g (grand_coalition g.players - s))
    ≡ ((weight measure s *ℤ weight measure (grand_coalition g.players - s))
    *ℤ (g.worth s +ℤ g.worth (grand_coalition g.players - s) -ℤ g.worth (grand_coalition g.players))) *ℤ y 0
paired_value measure g s y lt e =
    let t = grand_coalition g.players - s in
    let a = sum_over g.players (shares_of y) s in
    let b = sum_over g.players (shares_of y) t in
    let c = sum_below g.players (shares_of y) in
    shaped (weight measure s) (weight measure t) (g.worth s) (g.worth t) (g.worth (grand_coalition g.players)) (y 0)
    a b c (val g.players y (form measure g s)) (val g.players y (form measure g t)) (val_form measure g s y)
    (val_form measure g t y) (sum_over-complement g.players s (shares_of y) lt) e
  where
    shaped : (w u v1 v2 v q a b c f h : ℤ) → f ≡ w *ℤ (q *ℤ v1 -ℤ a) → h ≡ u *ℤ (q *ℤ v2 -ℤ b) → b +ℤ a ≡ c
        → c ≡ q *ℤ v → u *ℤ f +ℤ w *ℤ h ≡ ((w *ℤ u) *ℤ (v1 +ℤ v2 -ℤ v)) *ℤ q
    shaped w u v1 v2 v q a b c f h ef eh eb ec =
        let total : a ≡ q *ℤ v -ℤ b = omega (arith, linear, eb, ec) in
        let e3 : u *ℤ (w *ℤ (q *ℤ v1 -ℤ (q *ℤ v -ℤ b))) +ℤ w *ℤ (u *ℤ (q *ℤ v2 -ℤ b))
        ≡ ((w *ℤ u) *ℤ (v1 +ℤ v2 -ℤ v)) *ℤ q = simp ring_laws (omega (arith, linear)) in
        omega (arith, linear, ap (◌*ℤ◌ u) ef, ap (◌*ℤ◌ w) eh, e3, ap (λ (z : ℤ). u *ℤ (w *ℤ (q *ℤ v1 -ℤ z))) total)

-- ---- the point that comes first is the nucleolus

module _ (family : Family) (measure : Measure) (g : Game) (m : IsMeasurable measure g.players) where
  abbrev n : ℕ
  n = g.players

  abbrev pub forms : ℕ → Row
  forms j = form measure g (suc j)

  paired : (j : ℕ) → j < 2 ^ n - 2 → Paired n (2 ^ n - 2) forms (λ j. refl) (base family g) j
  paired j lt =
      let s = suc j in
      let all = grand_coalition n in
      let t = all - s in
      let back : suc (t - 1) ≡ t = omega arith in
      record {
        partner = t - 1;
        within = omega arith;
        own = weight measure t;
        other = weight measure s;
        least = (weight measure s *ℤ weight measure t) *ℤ (g.worth s +ℤ g.worth t -ℤ g.worth all);
        own_positive = weigh_positive measure n t m (omega arith) (omega arith);
        other_positive = weigh_positive measure n s m (omega arith) (omega arith);
        bound = λ y hy. rw back
            (omega (arith, linear, paired_value measure g s y (omega arith) (efficient_in family g y hy)));
      }

  pub beaten : (x : Row) → In (suc n) (base family g) x → (y : Allocation) → InFamily family g y
      → Better n (2 ^ n - 2) forms (λ j. refl) (base family g) x (row_of y) → Beats measure g (allocation g x) y
  beaten x hx y hy better =
      let f : ℕ → ℤ = λ s. y.den *ℤ measured_excess measure g (allocation g x) s in
      let h : ℕ → ℤ = λ s. x 0 *ℤ measured_excess measure g y s in
      let e = better.bound in
      let ay = allocation_of family g y hy in
      let at_x : (s : ℕ) → f s ≡ y.den *ℤ val n x (form measure g s) =
      λ s. ap (◌*ℤ◌ y.den) (excess_point measure g x s) in
      let at_y : (s : ℕ) → h s ≡ x 0 *ℤ val n (row_of y) (form measure g s) =
      λ s. ap (◌*ℤ◌ (x 0)) (excess_row measure g y s ay) in
      let each : (j : ℕ) → j < 2 ^ n - 2 → (f (suc j) ≡ h (suc j)) ⊎ (f (suc j) ≤ℤ e) =
      λ j lt. elim (better.each j lt) [
        | inl same ↦ inl (at_x (suc j) ∙ same ∙ sym (at_y (suc j)))
        | inr low ↦ inr (omega (arith, linear, low, at_x (suc j)))
      ] in
      let from_one : (s : ℕ) → 1 ≤ s → s < 1 + (2 ^ n - 2) → (f s ≡ h s) ⊎ (f s ≤ℤ e) = elim [
        | zero ↦ λ lo hi. absurd (omega arith)
        | suc j ↦ λ lo hi. each j (omega arith)
      ] in
      let c = better.one in
      ComesBefore-sorted e (map f (proper_coalitions n)) (map h (proper_coalitions n))
      (SameOrLow-range e f h 1 (2 ^ n - 2) from_one)
      (SomeAbove-range e f h 1 (2 ^ n - 2) (suc c) (omega arith) (omega (arith, better.within))
      (omega (arith, linear, better.low, at_x (suc c)))
      (omega (arith, linear, better.high, at_y (suc c))))

  -- the amounts are the same where the excesses are
  amounts_same : (x : Row) → In (suc n) (base family g) x → (y : Allocation) → InFamily family g y
      → ((j : ℕ) → j < 2 ^ n - 2 → Agree n (2 ^ n - 2) forms (λ j. refl) (base family g) x (row_of y) j) → (s : ℕ)
      → 0 < s → s < 2 ^ n → y.den *ℤ sum_over n (shares_of x) s ≡ x 0 *ℤ sum_over n (share y) s
  amounts_same x hx y hy agree s low high = by_lt (proper_or_all n s high)
    where
      by_lt : (s < grand_coalition n) ⊎ (s ≡ grand_coalition n)
          → y.den *ℤ sum_over n (shares_of x) s ≡ x 0 *ℤ sum_over n (share y) s
      by_lt (inl less) =
          let w = weight measure s in
          let v = g.worth s in
          let a = sum_over n (shares_of x) s in
          let b = sum_over n (share y) s in
          let back : suc (s - 1) ≡ s = omega arith in
          let same : y.den *ℤ val n x (form measure g s) ≡ x 0 *ℤ val n (row_of y) (form measure g s) =
          subst (λ (t : ℕ). y.den *ℤ val n x (form measure g t) ≡ x 0 *ℤ val n (row_of y) (form measure g t))
          back (agree (s - 1) (omega arith)) in
          let e1 = ap (◌*ℤ◌ y.den) (val_form measure g s x) in
          let e2 = ap (◌*ℤ◌ (x 0)) (val_form measure g s (row_of y)) in
          let whole = mul-cancelℤ w (y.den *ℤ (x 0 *ℤ v -ℤ a)) (x 0 *ℤ (y.den *ℤ v -ℤ b))
          (weight-positive measure n s m low high) (omega (sorted_products, same, e1, e2)) in
          omega (sorted_products, whole)
      by_lt (inr all) =
          let v = g.worth (grand_coalition n) in
          let ex = efficient_in family g x hx in
          let ey = efficient_row g y (allocation_of family g y hy) (efficient_of family g y hy) in
          let e1 = ap (◌*ℤ◌ y.den) (sum_over-grand_coalition n (shares_of x) ∙ ex) in
          rw all (omega (sorted_products, e1, ap (◌*ℤ◌ (x 0)) (sum_over-grand_coalition n (share y) ∙ ey)))

  nucleolus_of : (y : Allocation) → InFamily family g y → (x : Allocation) × IsNucleolus family measure g x
  nucleolus_of z hz =
      let r = first_point n (2 ^ n - 2) forms (λ j. refl) (base family g) (base_flat family g) (row_of z)
      (member_in family g z hz) paired in
      let x = r.point in (
        allocation g x,
        (
          in_member family g x r.inside,
          λ y hy differs. elim (r.first (row_of y) (member_in family g y hy)) [
            | inr better ↦ beaten x r.inside y hy better
            | inl agree ↦ absurd (differs (λ i lt.
                let same = amounts_same x r.inside y hy agree (singleton i)
                (let h = grand_coalition-within i in omega (arith, h)) (singleton-within n i lt) in
                let a = sum_over-singleton n i (shares_of x) lt in
                let b = sum_over-singleton n i (share y) lt in
                omega (
                  sorted_products,
                  ap (λ (t : ℤ). t *ℤ y.den) (listed_at n (shares_of x) i lt),
                  same,
                  ap (◌*ℤ◌ y.den) a,
                  ap (◌*ℤ◌ (x 0)) b,
                )))
          ],
        ),
      )

pub nucleoli_exist : NucleoliExist
nucleoli_exist family measure g y m hy = nucleolus_of family measure g m y hy

-- with a player there is a preimputation: that player gets all
pub some_preimputation : (g : Game) → 1 ≤ g.players → (y : Allocation) × InFamily Preimputations g y
some_preimputation g some =
    let n = g.players in
    let v = g.worth (grand_coalition n) in
    let f : ℕ → ℤ = λ i. unit_at 0 i *ℤ v in (
      point n f (pos 1),
      (
        (listed_length n f, omega (arith, linear)),
        amount_point n f (pos 1) (grand_coalition n) ∙ sum_over-grand_coalition n f
            ∙ sum_below-unit n 0 (λ i. v) (omega arith) ∙ sym (one-mulℤ v),
      ),
    )

pub prenucleoli_exist : PrenucleoliExist
prenucleoli_exist measure g m some =
    let y = some_preimputation g some in
    nucleolus_of Preimputations measure g m y.0 y.1

-- a prenucleolus of each game that has players
abbrev prenucleolus_by : (g : Game) → (0 < g.players) ⊎ (g.players ≤ 0) → Allocation
prenucleolus_by g (inl some) = (prenucleoli_exist Plain g (inl refl) (omega (arith, some))).0
prenucleolus_by g (inr none) = record { shares = []; den = pos 1 }

prenucleolus_by-is : (g : Game) (c : (0 < g.players) ⊎ (g.players ≤ 0)) → 1 ≤ g.players
    → IsNucleolus Preimputations Plain g (prenucleolus_by g c)
prenucleolus_by-is g (inl some) h = (prenucleoli_exist Plain g (inl refl) (omega (arith, some))).1
prenucleolus_by-is g (inr none) h = absurd (omega (arith, none, h))

abbrev pub prenucleolus_of : Game → Allocation
prenucleolus_of g = prenucleolus_by g (below_or_above 0 g.players)

pub prenucleolus_of-is : (g : Game) → 1 ≤ g.players → IsNucleolus Preimputations Plain g (prenucleolus_of g)
prenucleolus_of-is g h = prenucleolus_by-is g (below_or_above 0 g.players) h

-- ---- imputations

module _ (g : Game) where
  abbrev v : ℤ
  v = g.worth (grand_coalition g.players)

  abbrev alone : ℕ → ℤ
  alone i = g.worth (singleton i)

  abbrev rest : ℤ
  rest = v -ℤ sum_below g.players alone

  abbrev f : ℕ → ℤ
  f i = alone i +ℤ unit_at 0 i *ℤ rest

  rest_low : sum_below g.players alone ≤ℤ v → (i : ℕ) → alone i ≤ℤ f i
  rest_low le i = no_less_either (nat_eq i 0)
    where
      no_less_either : (b : Bool) → alone i ≤ℤ (alone i +ℤ cond b (pos 1) (pos 0) *ℤ rest)
      no_less_either b = grind (arith, linear, one-mulℤ, zero-mulℤ)

  imputation_of : 1 ≤ g.players → sum_below g.players alone ≤ℤ v → (y : Allocation) × InFamily Imputations g y
  imputation_of some le =
      let n = g.players in
      let total = sum_below-add n alone (λ i. unit_at 0 i *ℤ rest) in
      let one = sum_below-unit n 0 (λ i. rest) (omega arith) in (
        point n f (pos 1),
        (
          (listed_length n f, omega (arith, linear)),
          amount_point n f (pos 1) (grand_coalition n) ∙ sum_over-grand_coalition n f
              ∙ omega (products, total, one),
          λ i lt. omega (products, rest_low le i, listed_at n f i lt),
        ),
      )

  singles_low : (y : Allocation) → InFamily Imputations g y → sum_below g.players alone ≤ℤ v
  singles_low y h =
      let n = g.players in
      let low = sum_below-le n (λ i. y.den *ℤ alone i) (share y) h.2 in
      mul-le_cancelℤ y.den (sum_below n alone) v (omega (arith, linear, h.0.1))
      (omega (arith, linear, low, sum_below-times n alone y.den, efficient_row g y h.0 h.1))

pub imputations_exist : ImputationsExist
imputations_exist g some = ((λ y. singles_low g y.0 y.1), imputation_of g some)
