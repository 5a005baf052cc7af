-- The order of the players with a newcomer, who stands behind all whose cost is no greater; and one newcomer after the
-- other.
use Rattle.std.proofs.Common.{◌≡◌, ℕ, suc, ◌<◌, ◌≤◌, cond, nat_lt, List, [], ◌∷◌, ◌++◌, length, get_or, ℤ, pos, ◌*ℤ◌}
use Rattle.std.proofs.Common.{◌<ℤ◌, ◌≤ℤ◌, neg_ℤ, refl, sym, ap, subst, ◌∙◌, inl, inr, arith}
use Rattle.std.proofs.lemmas.List.{append-nil, append_assoc, length-append, get_or_append_left}
use Rattle.definitions.proofs.Cases.{below_or_above, nat_lt-less, nat_lt-past}
use Rattle.definitions.proofs.Ring.{ring_laws, linear, mul-leℤ, mul-le_cancelℤ, mul-positiveℤ}
use Rattle.definitions.specs.Games.{Allocation, share, IsNucleolus}
use Rattle.definitions.specs.declared.Family.{Family}
use Rattle.definitions.specs.declared.Measure.TheVariants.{Plain}
use Rattle.orders.specs.Orders.{IsOrder}
use Rattle.orders.proofs.Fronts.{order-place}
use Rattle.airport_scheme.specs.Scheme.{IsScheme, IsPaid}
use Rattle.airport_scheme.proofs.Excesses.{game_of}
use Rattle.law_answers.specs.Airports.{pays}
use Rattle.law_answers.proofs.NucleolusIsUnique.{nucleolus_unique}
use Rattle.law_airports.proofs.EveryNucleolusIsPaid.{scheme_over, nucleolus_paid}
use Rattle.law_airports.proofs.NewcomersPay.{no_more}
use Rattle.law_airports.proofs.OrdersExist.{gap_up_to, put, put-before, put-behind, one_more, order_exists}
use Rattle.law_airports.proofs.PaymentsExist.{payments_exist}
use Rattle.law_airports.proofs.PaymentsAreTheNucleolus.{payments_nucleolus}
use Rattle.law_airports.specs.Payments.{NewcomersMakeNobodyPayMore}
use Rattle.theorems.proofs.Products.{products, sorted_products}

-- ---- where the players stand then

place : ℕ → ℕ → ℕ
place p k = cond (nat_lt k p) k (suc k)

place-before : (p k : ℕ) → k < p → place p k ≡ k
unfolding place
place-before p k lt = rw (nat_lt-less k p lt) refl

place-behind : (p k : ℕ) → p ≤ k → place p k ≡ suc k
unfolding place
place-behind p k le = rw (nat_lt-past k p le) refl

place-lt : (p n k : ℕ) → k < n → place p k < suc n
place-lt p n k lt = elim (below_or_above k p) [
  | inl less ↦ omega (arith, place-before p k less, lt)
  | inr ge ↦ omega (arith, place-behind p k ge, lt)
]

place-climbs : (p j k : ℕ) → j < k → place p j < place p k
place-climbs p j k lt = elim (below_or_above j p) [
  | inl less ↦ elim (below_or_above k p) [
    | inl also ↦ omega (arith, place-before p j less, place-before p k also, lt)
    | inr ge ↦ omega (arith, place-before p j less, place-behind p k ge, lt)
  ]
  | inr ge ↦ omega (arith, place-behind p j ge, place-behind p k (omega (arith, ge, lt)), lt)
]

stands : (at : ℕ → ℕ) (n p k : ℕ) → put at n p (place p k) ≡ at k
stands at n p k = elim (below_or_above k p) [
  | inl less ↦ ap (put at n p) (place-before p k less) ∙ put-before at n p k less
  | inr ge ↦ ap (put at n p) (place-behind p k ge) ∙ put-behind at n p k ge
]

-- ---- one newcomer

module _ (costs : List ℕ) (new : ℕ) where
  abbrev n : ℕ
  n = length costs

  abbrev all : List ℕ
  all = costs ++ (new ∷ [])

  abbrev cost : ℕ → ℕ
  cost k = get_or costs k 0

  abbrev number : ℕ → ℕ
  number k = get_or all k 0

  long : length all ≡ suc n
  long = let e = length-append costs (new ∷ []) in omega (arith, e)

  was : (k : ℕ) → k < n → number k ≡ cost k
  was k lt = get_or_append_left costs (new ∷ []) 0 k lt

  module _ (at : ℕ → ℕ) (o : IsOrder n cost at) where
    before : IsOrder n number at
    before = record {
      below = o.below;
      apart = o.apart;
      rising = λ j k lt le.
          omega (arith, o.rising j k lt le, was (at j) (o.below j (omega (arith, lt, le))), was (at k) (o.below k le));
      full = o.full;
    }

    gap : (p : ℕ) × (p ≤ n) × ((k : ℕ) → k < p → number (at k) ≤ number n)
        × ((k : ℕ) → p ≤ k → k < n → number n ≤ number (at k))
    gap = gap_up_to n number at (number n) before n (omega arith)

    then : IsOrder (length all) number (put at n gap.0)
    then =
        subst (λ (m : ℕ). IsOrder m number (put at n gap.0)) (sym long)
        (one_more n number at before gap.0 gap.1 gap.2 gap.3)

  module _ (family : Family) (x y : Allocation) (h : IsNucleolus family Plain (game_of costs) x)
      (k : IsNucleolus family Plain (game_of all) y) where
    order : (at : ℕ → ℕ) × IsOrder n cost at
    order = order_exists n cost

    abbrev at : ℕ → ℕ
    at = order.0

    abbrev p : ℕ
    p = (gap at order.1).0

    paid : (pay : ℕ → ℤ) × IsPaid costs at pay x
    paid = nucleolus_paid family costs at x order.1 h

    paid_then : (pay : ℕ → ℤ) × IsPaid all (put at n p) pay y
    paid_then = nucleolus_paid family all (put at n p) y (then at order.1) k

    positive : pos 1 ≤ℤ (y.den *ℤ x.den)
    positive =
        let a = paid.1.scheme.positive in
        let b = paid_then.1.scheme.positive in
        let some = mul-positiveℤ y.den x.den (omega (arith, linear, b)) (omega (arith, linear, a)) in
        omega (arith, linear, some)

    left : (a b z : ℤ) → b *ℤ (a *ℤ z) ≡ (a *ℤ b) *ℤ z
    left a b z = simp ring_laws

    right : (a b z : ℤ) → a *ℤ (b *ℤ z) ≡ (a *ℤ b) *ℤ z
    right a b z = simp ring_laws

    scheme : IsScheme n (λ j. cost (at j)) (λ j. y.den *ℤ paid.0 j) (y.den *ℤ x.den)
    scheme =
        scheme_over n (λ j. cost (at j)) paid.0 (λ j. y.den *ℤ paid.0 j) x.den (y.den *ℤ x.den) paid.1.scheme positive
        (λ j lt. left y.den x.den (paid.0 j))

    scheme_then : IsScheme (length all) (λ j. number (put at n p j)) (λ j. x.den *ℤ paid_then.0 j) (y.den *ℤ x.den)
    scheme_then =
        scheme_over (length all) (λ j. number (put at n p j)) paid_then.0 (λ j. x.den *ℤ paid_then.0 j) y.den
        (y.den *ℤ x.den) paid_then.1.scheme positive (λ j lt. right y.den x.den (paid_then.0 j))

    by_place : (j : ℕ) → j < n → (x.den *ℤ paid_then.0 (place p j)) ≤ℤ (y.den *ℤ paid.0 j)
    by_place j lt =
        no_more n (λ j. cost (at j)) (λ j. y.den *ℤ paid.0 j) (y.den *ℤ x.den) scheme (length all)
        (λ j. number (put at n p j)) (λ j. x.den *ℤ paid_then.0 j) scheme_then (then at order.1).rising (place p)
        (λ i less. let le = place-lt p n i less in omega (arith, le, long)) (λ i l less within. place-climbs p i l less)
        (λ i less. ap number (stands at n p i) ∙ was (at i) (order.1.below i less)) j lt

    pub one_pays_no_more : (i : ℕ) → i < n → (pays y i *ℤ x.den) ≤ℤ (pays x i *ℤ y.den)
    one_pays_no_more i lt =
        let j = order-place n cost at order.1 i lt in
        let inside = place-lt p n j.0 j.1 in
        let own = paid.1.shares j.0 j.1 in
        let other = paid_then.1.shares (place p j.0) (omega (arith, inside, long)) in
        let who = stands at n p j.0 ∙ j.2 in
        moved (share x i) (share y i) (paid.0 j.0) (paid_then.0 (place p j.0)) x.den y.den
        (sym (ap (share x) j.2) ∙ own) (sym (ap (share y) who) ∙ other) (by_place j.0 j.1)
      where
        moved : (a b u v d e : ℤ) → a ≡ neg_ℤ u → b ≡ neg_ℤ v → (d *ℤ v) ≤ℤ (e *ℤ u)
            → (neg_ℤ b *ℤ d) ≤ℤ (neg_ℤ a *ℤ e)
        moved a b u v d e first second le =
            omega (sorted_products, le, ap (λ (z : ℤ). z *ℤ e) first, ap (λ (z : ℤ). z *ℤ d) second)

-- ---- several

chained : (a b m x y w : ℤ) → pos 0 <ℤ w → pos 0 ≤ℤ x → pos 0 ≤ℤ y → (a *ℤ w) ≤ℤ (m *ℤ y) → (m *ℤ x) ≤ℤ (b *ℤ w)
    → (a *ℤ x) ≤ℤ (b *ℤ y)
chained a b m x y w hw hx hy first second =
    mul-le_cancelℤ w (a *ℤ x) (b *ℤ y) hw
    (omega (sorted_products, mul-leℤ x (a *ℤ w) (m *ℤ y) hx first, mul-leℤ y (m *ℤ x) (b *ℤ w) hy second))

several : (further costs : List ℕ) (family : Family) (x y : Allocation) (i : ℕ)
    → IsNucleolus family Plain (game_of costs) x → IsNucleolus family Plain (game_of (costs ++ further)) y
    → i < length costs → (pays y i *ℤ x.den) ≤ℤ (pays x i *ℤ y.den)
several [] costs family x y i h k lt =
    let same = nucleolus_unique family Plain (game_of costs) x y h
    (subst (λ (l : List ℕ). IsNucleolus family Plain (game_of l) y) (append-nil costs) k) i lt in
    omega (products, same)
several (new ∷ further) costs family x y i h k lt =
    let all = costs ++ (new ∷ []) in
    let o = order_exists (length all) (λ k. get_or all k 0) in
    let made = payments_exist all o.0 o.1 in
    let w = made.1 in
    let between = payments_nucleolus family all o.0 made.0 w made.2 in
    let same = sym (append_assoc costs (new ∷ []) further) in
    let rest = subst (λ (l : List ℕ). IsNucleolus family Plain (game_of l) y) same k in
    let inside = long costs new in
    let first = several further all family w y i between rest (omega (arith, lt, inside)) in
    let second = one_pays_no_more costs new family x w h between i lt in
    let own = (paid costs new family x w h between).1.scheme.positive in
    let middle = made.2.scheme.positive in
    chained (pays y i) (pays x i) (pays w i) x.den y.den w.den (omega (arith, linear, middle))
    (omega (arith, linear, own)) (last_positive further all family y rest) first second
  where
    last_positive : (further all : List ℕ) (family : Family) (y : Allocation)
        → IsNucleolus family Plain (game_of (all ++ further)) y → pos 0 ≤ℤ y.den
    last_positive further all family y h =
        let costs = all ++ further in
        let o = order_exists (length costs) (λ k. get_or costs k 0) in
        let one = (nucleolus_paid family costs o.0 y o.1 h).1.scheme.positive in
        omega (arith, linear, one)

pub newcomers_make_nobody_pay_more : NewcomersMakeNobodyPayMore
newcomers_make_nobody_pay_more family costs further x y i h k lt = several further costs family x y i h k lt
