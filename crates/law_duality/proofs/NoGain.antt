-- At a nucleolus no transfer raises what each of the coalitions of the greatest excess gets, and leaves the others as
-- they are or takes from those of less excess: a small part of it would make shares that come before.
use Rattle.std.proofs.Common.{◌≡◌, ◌⊎◌, ℕ, zero, suc, ◌-◌, ◌^◌, ◌<◌, Bool, true, false, ◌&&◌, ℤ, pos, neg_ℤ, ◌+ℤ◌, ◌*ℤ◌}
use Rattle.std.proofs.Common.{◌<ℤ◌, ◌≤ℤ◌, int_le, refl, sym, ap, ◌∙◌, inl, inr, arith}
use Rattle.std.proofs.lemmas.Int.{by_lt_z, ints}
use Rattle.definitions.proofs.Ring.{linear, ring_laws, mul-zeroℤ, zero-mulℤ, mul-subℤ, mul-leℤ, mul-cancelℤ}
use Rattle.definitions.proofs.Ring.{mul-positiveℤ}
use Rattle.definitions.proofs.Members.{sum_below-add, sum_below-times}
use Rattle.definitions.proofs.SumsOver.{sum_over-same, sum_over-zero}
use Rattle.definitions.proofs.Measured.{weight}
use Rattle.definitions.proofs.Families.{allocation_of, efficient_of, individual_of}
use Rattle.definitions.proofs.Cases.{less_or_last, true_or_false, and_parts}
use Rattle.definitions.specs.Sums.{sum_below}
use Rattle.definitions.specs.Coalitions.{singleton, grand_coalition, sum_over}
use Rattle.definitions.specs.Measures.{IsMeasurable}
use Rattle.definitions.specs.Games.{Game, Allocation, share, measured_excess, IsSame, InFamily, IsNucleolus}
use Rattle.definitions.specs.declared.Family.{Family}
use Rattle.definitions.specs.declared.Family.TheVariants.{Imputations, Preimputations}
use Rattle.definitions.specs.declared.Measure.{Measure}
use Rattle.theorems.proofs.OneWay.{beats_one_way}
use Rattle.law_duality.proofs.Elimination.{Row}
use Rattle.law_duality.proofs.LeastValues.{In}
use Rattle.law_duality.proofs.Levels.{val, scaled, val_scaled, added, val_added}
use Rattle.law_duality.proofs.LevelByLevel.{Better}
use Rattle.law_duality.proofs.BondarevaShapley.{listed_at}
use Rattle.law_duality.proofs.Nucleoli.{asks, shares_of, form, base, row_of, allocation, Efficient, val_form}
use Rattle.law_duality.proofs.Nucleoli.{efficient_row}
use Rattle.law_duality.proofs.Nucleoli.{in_member, point_in, excess_row, weigh_positive, beaten}
use Rattle.theorems.proofs.Products.{products, sorted_products}

-- ---- players at their bound

abbrev pub has_bounds : Family → Bool
has_bounds Imputations = true
has_bounds Preimputations = false

-- an imputation gives player i no more than its worth alone
abbrev pub at_bound : Family → Game → Allocation → ℕ → Bool
at_bound family g x i = has_bounds family && int_le (share x i) (x.den *ℤ g.worth (singleton i))

pub has_bounds-imputations : (family : Family) → has_bounds family ≡ true → family ≡ Imputations
has_bounds-imputations family e = grind arith

pub at_bound-tight : (family : Family) (g : Game) (x : Allocation) (i : ℕ) → InFamily family g x → i < g.players
    → at_bound family g x i ≡ true → (share x i ≡ x.den *ℤ g.worth (singleton i)) × (family ≡ Imputations)
at_bound-tight family g x i h lt e =
    let both = and_parts (has_bounds family) (int_le (share x i) (x.den *ℤ g.worth (singleton i))) e in
    let is = has_bounds-imputations family both.0 in
    (omega (arith, linear, ints, individual_of family g x h is i lt, both.1), is)

at_bound-above : (g : Game) (x : Allocation) (family : Family) (i : ℕ) → at_bound family g x i ≡ false
    → family ≡ Imputations → (x.den *ℤ g.worth (singleton i)) <ℤ share x i
at_bound-above g x family i e is = grind (arith, ints)

-- ---- a number above finitely many

bound_of : (k : ℕ) (f : ℕ → ℤ) → (b : ℤ) × (pos 1 ≤ℤ b) × ((t : ℕ) → t < k → (f t +ℤ pos 1) ≤ℤ b)
bound_of zero f = (pos 1, omega (arith, linear), λ t lt. absurd (omega arith))
bound_of (suc k) f =
    let r = bound_of k f in
    by_lt_z (f k) r.0
    (λ less. (
      r.0,
      r.1,
      λ t lt. elim (less_or_last t k lt) [ inl h ↦ r.2 t h | inr same ↦ omega (arith, linear, less, ap f same) ],
    ))
    (λ le. (
      f k +ℤ pos 1,
      (omega (arith, linear, r.1, le)),
      λ t lt. elim (less_or_last t k lt) [
        | inl h ↦ (let low = r.2 t h in omega (arith, linear, low, le))
        | inr same ↦ omega (arith, linear, ap f same)
      ],
    ))

-- ---- the shares moved

module _ (family : Family) (measure : Measure) (g : Game) (m : IsMeasurable measure g.players) (x : Allocation)
    (h : IsNucleolus family measure g x) (z : ℕ → ℤ) (total : sum_below g.players z ≡ pos 0)
    (low : (i : ℕ) → i < g.players → at_bound family g x i ≡ true → pos 0 ≤ℤ z i) where
  abbrev n : ℕ
  n = g.players

  abbrev me : ℕ → ℤ
  me s = measured_excess measure g x s

  abbrev gained : ℕ → ℤ
  gained s = sum_over n z s

  abbrev xr : Row
  xr = row_of x

  abbrev zr : Row
  zr = asks (pos 0) z

  abbrev moved : ℤ → Row
  moved K = added (scaled K xr) zr

  den_positive : pos 1 ≤ℤ x.den
  den_positive = (allocation_of family g x h.0).1

  moved_den : (K : ℤ) → moved K 0 ≡ K *ℤ x.den
  moved_den K = omega (arith, linear)

  at_gain : (s : ℕ) → val n zr (form measure g s) ≡ neg_ℤ (weight measure s *ℤ gained s)
  at_gain s =
      let w = weight measure s in
      let v = g.worth s in
      omega (
        arith,
        linear,
        val_form measure g s zr,
        mul-subℤ w (pos 0 *ℤ v) (gained s),
        ap (◌*ℤ◌ w) (zero-mulℤ v),
        mul-zeroℤ w,
      )

  at_x : (s : ℕ) → val n xr (form measure g s) ≡ me s
  at_x s = sym (excess_row measure g x s (allocation_of family g x h.0))

  at_moved : (K : ℤ) (s : ℕ)
      → val n (moved K) (form measure g s) ≡ K *ℤ me s +ℤ neg_ℤ (weight measure s *ℤ gained s)
  at_moved K s =
      omega (
        products,
        val_added n (scaled K xr) zr (form measure g s),
        val_scaled n K xr (form measure g s),
        at_gain s,
        ap (◌*ℤ◌ K) (at_x s),
      )

  moved_efficient : (K : ℤ) → Efficient g (moved K)
  moved_efficient K =
      let v = g.worth (grand_coalition n) in
      let e = efficient_row g x (allocation_of family g x h.0) (efficient_of family g x h.0) in
      omega (
        sorted_products,
        sum_below-add n (λ i. K *ℤ share x i) z,
        sum_below-times n (share x) K,
        ap (◌*ℤ◌ K) e,
        ap (λ (t : ℤ). t *ℤ v) (moved_den K),
        total,
      )

  moved_low : (K : ℤ) → pos 1 ≤ℤ K → ((i : ℕ) → i < n → (neg_ℤ (z i) +ℤ pos 1) ≤ℤ K) → family ≡ Imputations
      → (i : ℕ) → i < n → (moved K 0 *ℤ g.worth (singleton i)) ≤ℤ shares_of (moved K) i
  moved_low K k1 k2 is i lt =
      let v = g.worth (singleton i) in
      let a = share x i in
      let e1 = ap (λ (t : ℤ). t *ℤ v) (moved_den K) in
      elim (true_or_false (at_bound family g x i)) [
        | inl here ↦
            (let tight = (at_bound-tight family g x i h.0 lt here).0 in
            omega (sorted_products, e1, ap (◌*ℤ◌ K) tight, low i lt here))
        | inr off ↦
            (let above = at_bound-above g x family i off is in
            let le =
            mul-leℤ K (x.den *ℤ v) (a +ℤ neg_ℤ (pos 1)) (omega (arith, linear, k1)) (omega (arith, linear, above))
            in
            omega (sorted_products, e1, le, k2 i lt))
      ]

  moved_in : (K : ℤ) → pos 1 ≤ℤ K → ((i : ℕ) → i < n → (neg_ℤ (z i) +ℤ pos 1) ≤ℤ K)
      → In (suc n) (base family g) (moved K)
  moved_in K k1 k2 =
      let positive = mul-positiveℤ K x.den (omega (arith, linear, k1)) (omega (arith, linear, den_positive)) in
      point_in family g (moved K) (omega (arith, linear, positive, moved_den K)) (moved_efficient K)
      (moved_low K k1 k2)

  -- ---- and that they come before

  module _ (e : ℤ) (K : ℤ) (k1 : pos 1 ≤ℤ K)
      (k3 : (t : ℕ) → t < 2 ^ n - 2
      → (neg_ℤ (weight measure (suc t) *ℤ gained (suc t)) +ℤ pos 1) ≤ℤ K) where
    abbrev bound : ℤ
    bound = x.den *ℤ (K *ℤ e +ℤ neg_ℤ (pos 1))

    under : (s : ℕ) → val n (moved K) (form measure g s) ≤ℤ (K *ℤ e +ℤ neg_ℤ (pos 1))
        → (xr 0 *ℤ val n (moved K) (form measure g s)) ≤ℤ bound
    under s le =
        mul-leℤ x.den (val n (moved K) (form measure g s)) (K *ℤ e +ℤ neg_ℤ (pos 1))
        (omega (arith, linear, den_positive)) le

    -- who gains and has at most the greatest excess comes below it
    under_gain : (t : ℕ) → t < 2 ^ n - 2 → me (suc t) ≤ℤ e → pos 1 ≤ℤ gained (suc t)
        → (xr 0 *ℤ val n (moved K) (form measure g (suc t))) ≤ℤ bound
    under_gain t lt le gain =
        let w = weight measure (suc t) in
        let wp = weigh_positive measure n (suc t) m (omega arith) (omega arith) in
        let p = mul-positiveℤ w (gained (suc t)) (omega (arith, linear, wp)) (omega (arith, linear, gain)) in
        let q = mul-leℤ K (me (suc t)) e (omega (arith, linear, k1)) le in
        under (suc t) (omega (arith, linear, p, q, at_moved K (suc t)))

    -- who has less stays below it
    under_less : (t : ℕ) → t < 2 ^ n - 2 → me (suc t) <ℤ e
        → (xr 0 *ℤ val n (moved K) (form measure g (suc t))) ≤ℤ bound
    under_less t lt less =
        let q =
        mul-leℤ K (me (suc t)) (e +ℤ neg_ℤ (pos 1)) (omega (arith, linear, k1)) (omega (arith, linear, less)) in
        under (suc t)
        (omega (products, q, k3 t lt, at_moved K (suc t)))

    unmoved : (s : ℕ) → gained s ≡ pos 0
        → xr 0 *ℤ val n (moved K) (form measure g s) ≡ moved K 0 *ℤ val n xr (form measure g s)
    unmoved s none =
        let v = val n (moved K) (form measure g s) in
        let same : v ≡ K *ℤ me s = omega (products, at_moved K s, ap (◌*ℤ◌ (weight measure s)) none) in
        shaped x.den K (me s) v (moved K 0) (val n xr (form measure g s)) same (moved_den K) (at_x s)
      where
        shaped : (d k a v q b : ℤ) → v ≡ k *ℤ a → q ≡ k *ℤ d → b ≡ a → d *ℤ v ≡ q *ℤ b
        shaped d k a v q b e f h =
            let e1 : d *ℤ (k *ℤ a) ≡ (k *ℤ d) *ℤ a = simp ring_laws refl in
            ap (◌*ℤ◌ d) e ∙ e1 ∙ ap (λ (t : ℤ). t *ℤ a) (sym f) ∙ ap (◌*ℤ◌ q) (sym h)

    above : (d : ℕ) → me (suc d) ≡ e → bound <ℤ (moved K 0 *ℤ val n xr (form measure g (suc d)))
    above d is =
        shaped x.den K e (moved K 0) (val n xr (form measure g (suc d))) (moved_den K) (at_x (suc d) ∙ is) den_positive
      where
        shaped : (d k e q b : ℤ) → q ≡ k *ℤ d → b ≡ e → pos 1 ≤ℤ d → (d *ℤ (k *ℤ e +ℤ neg_ℤ (pos 1))) <ℤ (q *ℤ b)
        shaped d k e q b f h one = omega (sorted_products, ap (λ (t : ℤ). t *ℤ b) f, ap (◌*ℤ◌ ((k *ℤ d))) h, one)

  -- who gains has other shares
  same_none : (K : ℤ) → IsSame g x (allocation g (moved K)) → (i : ℕ) → i < n → z i ≡ pos 0
  same_none K same i lt =
      shaped x.den K (share x i) (z i) (moved K 0) (share (allocation g (moved K)) i) den_positive (moved_den K)
      (listed_at n (shares_of (moved K)) i lt) (same i lt)
    where
      shaped : (d k a z q s : ℤ) → pos 1 ≤ℤ d → q ≡ k *ℤ d → s ≡ k *ℤ a +ℤ z → a *ℤ q ≡ s *ℤ d → z ≡ pos 0
      shaped d k a z q s one f h e =
          mul-cancelℤ d z (pos 0) (omega (arith, linear, one))
          (omega (sorted_products, e, ap (◌*ℤ◌ a) f, ap (λ (t : ℤ). t *ℤ d) h))

  -- each coalition gains nothing, gains and has at most the greatest excess, or has less; and one that has it gains
  pub no_gain : (e : ℤ) (d : ℕ) → d < 2 ^ n - 2 → me (suc d) ≡ e → pos 1 ≤ℤ gained (suc d)
      → ((t : ℕ) → t < 2 ^ n - 2
      → (gained (suc t) ≡ pos 0) ⊎ (((me (suc t) ≤ℤ e) × (pos 1 ≤ℤ gained (suc t))) ⊎ (me (suc t) <ℤ e)))
      → ⊥
  no_gain e d hd is gain each =
      let b1 = bound_of (2 ^ n - 2) (λ t. neg_ℤ (weight measure (suc t) *ℤ gained (suc t))) in
      let b2 = bound_of n (λ i. neg_ℤ (z i)) in
      let K = b1.0 +ℤ b2.0 in
      let k1 : pos 1 ≤ℤ K = omega (arith, linear, b1.1, b2.1) in
      let k2 : (i : ℕ) → i < n → (neg_ℤ (z i) +ℤ pos 1) ≤ℤ K =
      λ i lt. (let r = b2.2 i lt in omega (arith, linear, r, b1.1)) in
      let k3 : (t : ℕ) → t < 2 ^ n - 2 → (neg_ℤ (weight measure (suc t) *ℤ gained (suc t)) +ℤ pos 1) ≤ℤ K =
      λ t lt. (let r = b1.2 t lt in omega (arith, linear, r, b2.1)) in
      let y = allocation g (moved K) in
      let inside = moved_in K k1 k2 in
      let better : Better n (2 ^ n - 2) (λ j. form measure g (suc j)) (λ j. refl) (base family g) (moved K) xr =
      record {
        bound = bound e K k1 k3;
        each = λ t lt. elim (each t lt) [
          | inl none ↦ inl (unmoved e K k1 k3 (suc t) none)
          | inr some ↦ inr
              (elim some [
                | inl gains ↦ under_gain e K k1 k3 t lt gains.0 gains.1
                | inr less ↦ under_less e K k1 k3 t lt less
              ])
        ];
        one = d;
        within = hd;
        low = under_gain e K k1 k3 d hd (omega (arith, linear, is)) gain;
        high = above e K k1 k3 d is;
      } in
      beats_one_way measure g x y
      (h.1 y (in_member family g (moved K) inside) (λ same.
      (let none = sum_over-same n z (λ i. pos 0) (suc d) (same_none K same) ∙ sum_over-zero n (suc d) in
      omega (arith, linear, none, gain)))) (beaten family measure g m (moved K) inside x h.0 better)
