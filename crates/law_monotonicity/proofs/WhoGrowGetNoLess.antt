-- If only coalition t is worth more, only its excess rises, at all shares by the same. If its members got less at
-- the new nucleolus than at the old one, its excess there would be the greater, so the old one would still come first
-- (Zhou 1991).
use Rattle.std.proofs.Common.{◌≡◌, ◌≢◌, ℕ, ◌-◌, ◌^◌, ◌<◌, List, ℤ, pos, ◌+ℤ◌, ◌-ℤ◌, ◌*ℤ◌, ◌<ℤ◌, ◌≤ℤ◌, sym, ap, subst}
use Rattle.std.proofs.Common.{◌∙◌, inl, inr, arith}
use Rattle.std.proofs.lemmas.Int.{by_lt_z}
use lib.IntN.{*ℤ_comm}
use Rattle.definitions.proofs.Cases.{same_or_other}
use Rattle.definitions.proofs.Families.{allocation_of, efficient_of}
use Rattle.definitions.proofs.Masks.{singleton-within, grand_coalition-within, proper_or_all}
use Rattle.definitions.proofs.Measured.{weight, measured-weight, weight-positive}
use Rattle.definitions.proofs.Members.{sum_over-singleton}
use Rattle.definitions.proofs.Ring.{ring_laws, linear, mul-leℤ, mul-ltℤ, mul-le_cancelℤ, mul-nonnegativeℤ}
use Rattle.definitions.proofs.Ring.{mul-positiveℤ}
use Rattle.definitions.proofs.SumsOver.{sum_over-same, sum_over-times, amount-at, amount-empty}
use Rattle.definitions.specs.Coalitions.{singleton, grand_coalition}
use Rattle.definitions.specs.Measures.{measured, IsMeasurable}
use Rattle.definitions.specs.Games.{Allocation, share, amount, excess, measured_excess, excess_list, IsAllocation}
use Rattle.definitions.specs.Games.{InFamily, Beats, IsSame, IsNucleolus}
use Rattle.definitions.specs.Order.{with_number, sorted, IsLesser}
use Rattle.definitions.specs.declared.Family.{Family}
use Rattle.definitions.specs.declared.Family.TheVariants.{Imputations, Preimputations}
use Rattle.definitions.specs.declared.Measure.{Measure}
use Rattle.law_monotonicity.specs.Growth.{WhoGrowGetNoLess}
use Rattle.law_monotonicity.proofs.OneNumberMore.{others, others-same, picked, not_last}
use Rattle.law_monotonicity.proofs.Worths.{game}
use Rattle.theorems.proofs.Products.{products, sorted_products}

-- ---- identities

entry_more : (k p q u d m : ℤ)
    → q *ℤ (k *ℤ (p *ℤ (u +ℤ d) -ℤ m)) ≡ q *ℤ (k *ℤ (p *ℤ u -ℤ m)) +ℤ k *ℤ (d *ℤ (p *ℤ q))
entry_more k p q u d m = simp ring_laws (omega (arith, linear))

-- what gets less has the greater excess
entry_less : (k p q u a b : ℤ) → pos 0 <ℤ k → (b *ℤ p) <ℤ (a *ℤ q)
    → (q *ℤ (k *ℤ (p *ℤ u -ℤ a))) <ℤ (p *ℤ (k *ℤ (q *ℤ u -ℤ b)))
entry_less k p q u a b up lt =
    let left : q *ℤ (k *ℤ (p *ℤ u -ℤ a)) ≡ k *ℤ (p *ℤ (q *ℤ u)) -ℤ k *ℤ (a *ℤ q) =
    simp ring_laws (omega (arith, linear)) in
    let right : p *ℤ (k *ℤ (q *ℤ u -ℤ b)) ≡ k *ℤ (p *ℤ (q *ℤ u)) -ℤ k *ℤ (b *ℤ p) =
    simp ring_laws (omega (arith, linear)) in
    omega (arith, linear, left, right, mul-ltℤ k (b *ℤ p) (a *ℤ q) up lt)

-- ---- the lists of excesses

same_amount : (n : ℕ) (v : ℕ → ℤ) (x y : Allocation) (s : ℕ) → IsAllocation (game n v) x → IsAllocation (game n v) y
    → IsSame (game n v) x y → amount x s *ℤ y.den ≡ amount y s *ℤ x.den
same_amount n v x y s hx hy same =
    *ℤ_comm (amount x s) y.den
    ∙ ap (◌*ℤ◌ y.den) (amount-at (game n v) x s hx)
    ∙ sym (sum_over-times n (share x) y.den s)
    ∙ sum_over-same n (λ i. y.den *ℤ share x i) (λ i. x.den *ℤ share y i) s
    (λ i lt. *ℤ_comm y.den (share x i) ∙ same i lt ∙ *ℤ_comm (share y i) x.den)
    ∙ sum_over-times n (share y) x.den s
    ∙ ap (◌*ℤ◌ x.den) (sym (amount-at (game n v) y s hy))
    ∙ *ℤ_comm x.den (amount y s)

module _ (measure : Measure) (n : ℕ) (v w : ℕ → ℤ) (d : ℤ) (t : ℕ) (can : IsMeasurable measure n)
    (up : pos 0 ≤ℤ d) (some : 0 < t) (less : t < grand_coalition n) (more : w t ≡ v t +ℤ d)
    (other : (s : ℕ) → s < 2 ^ n → s ≢ t → w s ≡ v s) where
  abbrev k : ℤ
  k = weight measure t

  -- the excesses of x and of others, over the product of two denominators
  abbrev entry : (ℕ → ℤ) → Allocation → Allocation → ℕ → ℤ
  entry u x y s = y.den *ℤ measured_excess measure (game n u) x s

  -- what each list has more at t
  abbrev raise : Allocation → Allocation → ℤ
  raise x y = k *ℤ (d *ℤ (x.den *ℤ y.den))

  entry-other : (x y : Allocation) (s : ℕ) → s < 2 ^ n → s ≢ t → entry v x y s ≡ entry w x y s
  entry-other x y s lt ne =
      ap (λ (z : ℤ). y.den *ℤ measured measure s (x.den *ℤ z -ℤ amount x s)) (sym (other s lt ne))

  entry-at : (u : ℕ → ℤ) (x y : Allocation) → entry u x y t ≡ y.den *ℤ (k *ℤ (x.den *ℤ u t -ℤ amount x t))
  entry-at u x y = ap (◌*ℤ◌ y.den) (measured-weight measure t (excess (game n u) x t))

  entry-raised : (x y : Allocation) → entry w x y t ≡ entry v x y t +ℤ raise x y
  entry-raised x y =
      entry-at w x y
      ∙ ap (λ (z : ℤ). y.den *ℤ (k *ℤ (x.den *ℤ z -ℤ amount x t))) more
      ∙ entry_more k x.den y.den (v t) d (amount x t)
      ∙ ap (λ (z : ℤ). z +ℤ raise x y) (sym (entry-at v x y))

  list-v : (x y : Allocation)
      → sorted (excess_list measure (game n v) x y.den)
      ≡ with_number (entry v x y t) (sorted (others (entry v x y) 1 (2 ^ n - 2) t))
  list-v x y = picked (entry v x y) 1 (2 ^ n - 2) t some (omega arith)

  list-w : (x y : Allocation)
      → sorted (excess_list measure (game n w) x y.den)
      ≡ with_number (entry v x y t +ℤ raise x y) (sorted (others (entry v x y) 1 (2 ^ n - 2) t))
  list-w x y =
      picked (entry w x y) 1 (2 ^ n - 2) t some (omega arith)
      ∙ ap (λ (z : ℤ). with_number z (sorted (others (entry w x y) 1 (2 ^ n - 2) t))) (entry-raised x y)
      ∙ ap (λ (zs : List ℤ). with_number (entry v x y t +ℤ raise x y) (sorted zs))
      (others-same (entry w x y) (entry v x y) 1 (2 ^ n - 2) t
      (λ s low high ne. sym (entry-other x y s (omega arith) ne)))

  -- x comes first in the first game, and y in the second: then the members of t don't get less at y
  not_less : (x y : Allocation) → IsAllocation (game n v) x → IsAllocation (game n v) y
      → (amount y t *ℤ x.den) <ℤ (amount x t *ℤ y.den) → Beats measure (game n v) x y
      → Beats measure (game n w) y x → ⊥
  not_less x y hx hy lt first second =
      not_last (entry v x y t) (entry v y x t) (raise x y) (sorted (others (entry v x y) 1 (2 ^ n - 2) t))
      (sorted (others (entry v y x) 1 (2 ^ n - 2) t)) lesser nonnegative
      (subst
      (λ (zs : List ℤ). IsLesser zs (with_number (entry v y x t) (sorted (others (entry v y x) 1 (2 ^ n - 2) t))))
      (list-v x y)
      (subst (λ (zs : List ℤ). IsLesser (sorted (excess_list measure (game n v) x y.den)) zs) (list-v y x) first.1))
      (subst
      (λ (zs : List ℤ). IsLesser zs
      (with_number (entry v x y t +ℤ raise x y) (sorted (others (entry v x y) 1 (2 ^ n - 2) t))))
      (list-w y x
      ∙ ap (λ (z : ℤ). with_number (entry v y x t +ℤ z) (sorted (others (entry v y x) 1 (2 ^ n - 2) t)))
      (ap (λ (z : ℤ). k *ℤ (d *ℤ z)) (*ℤ_comm y.den x.den)))
      (subst (λ (zs : List ℤ). IsLesser (sorted (excess_list measure (game n w) y x.den)) zs) (list-w x y) second.1))
    where
      weighs : pos 0 <ℤ k
      weighs = weight-positive measure n t can some (omega arith)

      lesser : entry v x y t <ℤ entry v y x t
      lesser =
          let gap = entry_less k x.den y.den (v t) (amount x t) (amount y t) weighs lt in
          omega (arith, linear, gap, entry-at v x y, entry-at v y x)

      nonnegative : pos 0 ≤ℤ raise x y
      nonnegative =
          let dens = mul-positiveℤ x.den y.den (omega (arith, linear, hx.1)) (omega (arith, linear, hy.1)) in
          let part = mul-nonnegativeℤ d (x.den *ℤ y.den) up (omega (arith, linear, dens)) in
          mul-nonnegativeℤ k (d *ℤ (x.den *ℤ y.den)) (omega (arith, linear, weighs)) part

-- ---- the families

module _ (n : ℕ) (v w : ℕ → ℤ) (d : ℤ) (t : ℕ) (up : pos 0 ≤ℤ d) (less : t < grand_coalition n)
    (more : w t ≡ v t +ℤ d) (other : (s : ℕ) → s < 2 ^ n → s ≢ t → w s ≡ v s) where
  grand_same : w (grand_coalition n) ≡ v (grand_coalition n)
  grand_same = other (grand_coalition n) (grand_coalition-within n) (λ e. omega (arith, less, e))

  -- who is in the family where t is worth more is in it where it is worth less
  family-back : (family : Family) (y : Allocation) → InFamily family (game n w) y → InFamily family (game n v) y
  family-back Preimputations y h = (h.0, h.1 ∙ ap (◌*ℤ◌ y.den) grand_same)
  family-back Imputations y h = (
    h.0,
    h.1 ∙ ap (◌*ℤ◌ y.den) grand_same,
    λ i lt.
        let le =
        mul-leℤ y.den (v (singleton i)) (w (singleton i)) (omega (arith, linear, h.0.1)) (worth_no_less (singleton i)
        (singleton-within n i lt)) in
        omega (arith, linear, le, h.2 i lt),
  )
    where
      worth_no_less : (s : ℕ) → s < 2 ^ n → v s ≤ℤ w s
      worth_no_less s lt = elim (same_or_other s t) [
        | inl same ↦ omega (arith, linear, up, more, ap v same, ap w same)
        | inr ne ↦ omega (arith, linear, other s lt ne)
      ]

  -- and the other way round, where somebody in it gives the members of t less
  family-to : (family : Family) (x y : Allocation) → InFamily family (game n v) x → InFamily family (game n w) y
      → (amount y t *ℤ x.den) <ℤ (amount x t *ℤ y.den) → InFamily family (game n w) x
  family-to Preimputations x y h k lt = (h.0, h.1 ∙ ap (◌*ℤ◌ x.den) (sym grand_same))
  family-to Imputations x y h k lt = (
    h.0,
    h.1 ∙ ap (◌*ℤ◌ x.den) (sym grand_same),
    λ i lt_i. elim (same_or_other (singleton i) t) [
      | inl same ↦ itself i lt_i same
      | inr ne ↦ omega (products, h.2 i lt_i, ap (◌*ℤ◌ x.den) (other (singleton i) (singleton-within n i lt_i) ne))
    ],
  )
    where
      itself : (i : ℕ) → i < n → singleton i ≡ t → (x.den *ℤ w (singleton i)) ≤ℤ share x i
      itself i lt_i same =
          let a = ap (amount x) (sym same) ∙ amount-at (game n v) x (singleton i) h.0
          ∙ sum_over-singleton n i (share x) lt_i in
          let b = ap (amount y) (sym same) ∙ amount-at (game n w) y (singleton i) k.0
          ∙ sum_over-singleton n i (share y) lt_i in
          let le = mul-leℤ x.den (y.den *ℤ w (singleton i)) (share y i) (omega (arith, linear, h.0.1)) (k.2 i lt_i) in
          mul-le_cancelℤ y.den (x.den *ℤ w (singleton i)) (share x i) (omega (arith, linear, k.0.1))
          (omega (sorted_products, le, lt, ap (λ (z : ℤ). z *ℤ y.den) a, ap (λ (z : ℤ). z *ℤ x.den) b))

-- ---- the nucleolus

proper : (family : Family) (measure : Measure) (n : ℕ) (v w : ℕ → ℤ) (d : ℤ) (t : ℕ) (x y : Allocation)
    → IsMeasurable measure n → pos 0 ≤ℤ d → 0 < t → t < grand_coalition n → w t ≡ v t +ℤ d
    → ((s : ℕ) → s < 2 ^ n → s ≢ t → w s ≡ v s) → IsNucleolus family measure (game n v) x
    → IsNucleolus family measure (game n w) y → (amount y t *ℤ x.den) <ℤ (amount x t *ℤ y.den) → ⊥
proper family measure n v w d t x y can up some less more other hx hy lt =
    not_less measure n v w d t can up some less more other x y ax ay lt
    (hx.1 y (family-back n v w d t up less more other family y hy.0) differs)
    (hy.1 x (family-to n v w d t up less more other family x y hx.0 hy.0 lt)
    (λ same. differs (λ i h. sym (same i h))))
  where
    ax : IsAllocation (game n v) x
    ax = allocation_of family (game n v) x hx.0

    ay : IsAllocation (game n v) y
    ay = allocation_of family (game n w) y hy.0

    differs : ¬ IsSame (game n v) x y
    differs same = omega (arith, linear, lt, same_amount n v x y t ax ay same)

-- nobody gets nothing, and all together get what they are worth
whole_no_less : (p q u z : ℤ) → pos 0 ≤ℤ p → pos 0 ≤ℤ q → pos 0 ≤ℤ z → ((p *ℤ u) *ℤ q) ≤ℤ ((q *ℤ (u +ℤ z)) *ℤ p)
whole_no_less p q u z hp hq hz = omega (sorted_products, mul-nonnegativeℤ (p *ℤ q) z (mul-nonnegativeℤ p q hp hq) hz)

pub who_grow_get_no_less : WhoGrowGetNoLess
who_grow_get_no_less family measure d t g h x y can up within grows hx hy =
    by_lt_z (amount y t *ℤ x.den) (amount x t *ℤ y.den) (λ lt. absurd (never lt)) (λ le. le)
  where
    n : ℕ
    n = g.players

    hy_n : IsNucleolus family measure (game g.players h.worth) y
    hy_n = subst (λ (m : ℕ). IsNucleolus family measure (game m h.worth) y) grows.players hy

    never : (amount y t *ℤ x.den) <ℤ (amount x t *ℤ y.den) → ⊥
    never lt = elim (same_or_other t 0) [
      | inl none ↦ omega (
        products,
        lt,
        ap (λ (z : ℤ). z *ℤ x.den) (ap (amount y) none ∙ amount-empty y),
        ap (λ (z : ℤ). z *ℤ y.den) (ap (amount x) none ∙ amount-empty x),
      )
      | inr some ↦ elim (proper_or_all g.players t within) [
        | inl less ↦
            proper family measure g.players g.worth h.worth d t x y can up (omega (arith, some)) less grows.more
            grows.others hx hy_n lt
        | inr all ↦
            let ax = allocation_of family g x hx.0 in
            let ay = allocation_of family h y hy.0 in
            let got_x =
            ap (amount x) all ∙ efficient_of family g x hx.0 ∙ ap (λ (s : ℕ). x.den *ℤ g.worth s) (sym all) in
            let got_y = ap (amount y) all ∙ efficient_of family (game g.players h.worth) y hy_n.0
            ∙ ap (λ (s : ℕ). y.den *ℤ h.worth s) (sym all) ∙ ap (◌*ℤ◌ y.den) grows.more in
            omega (
              products,
              lt,
              ap (λ (z : ℤ). z *ℤ y.den) got_x,
              ap (λ (z : ℤ). z *ℤ x.den) got_y,
              whole_no_less x.den y.den (g.worth t) d (omega (arith, linear, ax.1)) (omega (arith, linear, ay.1)) up,
            )
      ]
    ]
