-- If all together are worth d more, an equal part of it for each of n players takes d/n off each excess per head. So
-- the order of all lists of excesses stays as it was (Young, Okada and Hashimoto 1982).
use Rattle.std.proofs.Common.{◌≡◌, ◌≢◌, ℕ, zero, suc, ◌-◌, ◌/◌, ◌^◌, ◌<◌, ◌≤◌, true, List, length, map, ℤ, pos, ◌+ℤ◌}
use Rattle.std.proofs.Common.{◌-ℤ◌, ◌*ℤ◌, ◌≤ℤ◌, neg_ℤ, sym, ap, subst, ◌∙◌, inl, inr, arith}
use Rattle.std.specs.List.{range_with_len}
use Rattle.std.proofs.lemmas.List.FromFn.{get_or-map-range_with_len, length-map-range_with_len}
use lib.IntN.{*ℤ_comm}
use Rattle.definitions.proofs.Cases.{true_or_false}
use Rattle.definitions.proofs.Halves.{size_below, size_below-zero, size_below-yes, size_below-no}
use Rattle.definitions.proofs.Measured.{measured_den-weight}
use Rattle.definitions.proofs.Members.{has_player-grand_coalition}
use Rattle.definitions.proofs.Ring.{ring_laws, linear, mul_left_commℤ, mul-positiveℤ, suc-mulℤ, zero-mulℤ}
use Rattle.definitions.proofs.Sizes.{size-at}
use Rattle.definitions.proofs.SumsOver.{sum_over-same, sum_over-add, sum_over-times}
use Rattle.definitions.specs.Coalitions.{has_player, grand_coalition, sum_over, size}
use Rattle.definitions.specs.Games.{Allocation, share, amount, excess, measured_excess, excess_list, IsEfficient}
use Rattle.definitions.specs.Games.{InFamily, Beats, IsSame, IsNucleolus}
use Rattle.definitions.specs.Order.{sorted, ComesBefore}
use Rattle.definitions.specs.declared.Family.TheVariants.{Preimputations}
use Rattle.definitions.specs.declared.Measure.TheVariants.{PerHead}
use Rattle.law_answers.proofs.NucleolusIsUnique.{nucleolus_unique}
use Rattle.law_answers.proofs.WithACoreBothAreOne.{both_are_one}
use Rattle.law_monotonicity.proofs.LessenedLists.{lessened, order-lessened, values-lessened}
use Rattle.law_monotonicity.specs.Growth.{PerHeadEachGetsAnEqualPart, WithCoresTheNucleolusDoes}
use Rattle.law_monotonicity.proofs.Worths.{game}
use Rattle.theorems.proofs.Products.{products, sorted_products}

-- ---- one number for each member

sum_over-constant : (n : ℕ) (c : ℤ) (s : ℕ) → sum_over n (λ i. c) s ≡ pos (size_below n s) *ℤ c
sum_over-constant zero c s = sym (ap (λ (k : ℕ). pos k *ℤ c) (size_below-zero s) ∙ zero-mulℤ c)
sum_over-constant (suc n) c s =
    let ih = sum_over-constant n c s in
    elim (true_or_false (has_player s n)) [
      | inl inside ↦ rw inside (omega (
        products,
        ih,
        ap (λ (k : ℕ). pos k *ℤ c) (size_below-yes n s inside),
        suc-mulℤ (size_below n s) c,
      ))
      | inr outside ↦ rw outside
          (omega (arith, linear, ih, ap (λ (k : ℕ). pos k *ℤ c) (size_below-no n s outside)))
    ]

size-every : (n s : ℕ) → ((i : ℕ) → i < n → has_player s i ≡ true) → size_below n s ≡ n
size-every zero s h = size_below-zero s
size-every (suc n) s h = size_below-yes n s (h n (omega arith)) ∙ ap suc (size-every n s (λ i lt. h i (omega arith)))

size-all : (n : ℕ) → size_below n (grand_coalition n) ≡ n
size-all n = size-every n (grand_coalition n) (has_player-grand_coalition n)

-- ---- an equal part of d for each of n players

abbrev more : ℕ → ℤ → Allocation → ℕ → ℤ
more n d x i = pos n *ℤ share x i +ℤ x.den *ℤ d

-- the shares, each more by d/n
abbrev raised : ℕ → ℤ → Allocation → Allocation
raised n d x = record { shares = map (more n d x) (range_with_len 0 n); den = pos n *ℤ x.den }

length-raised : (n : ℕ) (d : ℤ) (x : Allocation) → length (raised n d x).shares ≡ n
length-raised n d x = length-map-range_with_len (more n d x) 0 n

share-raised : (n : ℕ) (d : ℤ) (x : Allocation) (i : ℕ) → i < n → share (raised n d x) i ≡ more n d x i
share-raised n d x i lt = get_or-map-range_with_len (more n d x) 0 n i i (pos 0) lt (omega arith)

amount-raised : (n : ℕ) (d : ℤ) (x : Allocation) (s : ℕ) → length x.shares ≡ n
    → amount (raised n d x) s ≡ pos n *ℤ amount x s +ℤ pos (size_below n s) *ℤ (x.den *ℤ d)
amount-raised n d x s long =
    ap (λ (k : ℕ). sum_over k (share (raised n d x)) s) (length-raised n d x)
    ∙ sum_over-same n (share (raised n d x)) (more n d x) s (share-raised n d x)
    ∙ sum_over-add n (λ i. pos n *ℤ share x i) (λ i. x.den *ℤ d) s
    ∙ ap (λ (z : ℤ). z +ℤ sum_over n (λ i. x.den *ℤ d) s) (sum_over-times n (share x) (pos n) s)
    ∙ ap (λ (z : ℤ). pos n *ℤ sum_over n (share x) s +ℤ z) (sum_over-constant n (x.den *ℤ d) s)
    ∙ ap (λ (k : ℕ). pos n *ℤ sum_over k (share x) s +ℤ pos (size_below n s) *ℤ (x.den *ℤ d)) (sym long)

excess-raised : (n : ℕ) (v w : ℕ → ℤ) (d : ℤ) (x : Allocation) (s : ℕ) → length x.shares ≡ n → w s ≡ v s
    → excess (game n w) (raised n d x) s
    ≡ pos n *ℤ excess (game n v) x s -ℤ pos (size_below n s) *ℤ (x.den *ℤ d)
excess-raised n v w d x s long same =
    omega (sorted_products, amount-raised n d x s long, ap (◌*ℤ◌ ((pos n *ℤ x.den))) same)

-- per head, each coalition loses the same
measured-raised : (n : ℕ) (v w : ℕ → ℤ) (d : ℤ) (x : Allocation) (s : ℕ) → n ≤ 16 → 0 < s → s < 2 ^ n
    → length x.shares ≡ n → w s ≡ v s
    → measured_excess PerHead (game n w) (raised n d x) s
    ≡ pos n *ℤ measured_excess PerHead (game n v) x s -ℤ pos 720720 *ℤ (x.den *ℤ d)
measured-raised n v w d x s few some within long same =
    ap (◌*ℤ◌ k) (excess-raised n v w d x s long same)
    ∙ weighed k (pos n) (excess (game n v) x s) (pos (size_below n s) *ℤ c) (pos 720720 *ℤ c) whole
  where
    k : ℤ
    k = pos (720720 / size s)

    c : ℤ
    c = x.den *ℤ d

    whole : k *ℤ (pos (size_below n s) *ℤ c) ≡ pos 720720 *ℤ c
    whole =
        ap (λ (m : ℕ). k *ℤ (pos m *ℤ c)) (sym (size-at n s (omega arith) within))
        ∙ ap (◌*ℤ◌ k) (*ℤ_comm (pos (size s)) c)
        ∙ sym (measured_den-weight PerHead n s c (inr few) some within)

    weighed : (k m e z t : ℤ) → k *ℤ z ≡ t → k *ℤ (m *ℤ e -ℤ z) ≡ m *ℤ (k *ℤ e) -ℤ t
    weighed k m e z t h = omega (sorted_products, h)

-- ---- preimputations

family-raised : (n : ℕ) (v w : ℕ → ℤ) (d : ℤ) (x : Allocation) → 1 ≤ n
    → w (grand_coalition n) ≡ v (grand_coalition n) +ℤ d → InFamily Preimputations (game n v) x
    → InFamily Preimputations (game n w) (raised n d x)
family-raised n v w d x some whole h = ((length-raised n d x, positive), efficient)
  where
    positive : pos 1 ≤ℤ (pos n *ℤ x.den)
    positive =
        let p = mul-positiveℤ (pos n) x.den (omega (arith, linear, some)) (omega (arith, linear, h.0.1)) in
        omega (arith, linear, p)

    efficient : IsEfficient (game n w) (raised n d x)
    efficient =
        let all = grand_coalition n in
        omega (
          sorted_products,
          amount-raised n d x all h.0.0,
          ap (λ (k : ℕ). pos k *ℤ (x.den *ℤ d)) (size-all n),
          ap (◌*ℤ◌ (pos n)) h.1,
          ap (◌*ℤ◌ ((pos n *ℤ x.den))) whole,
        )

-- what gives y back, where d is taken off
turned : (n a b p q d : ℤ) → a *ℤ (n *ℤ q) ≡ (n *ℤ b +ℤ q *ℤ neg_ℤ d) *ℤ p
    → (n *ℤ a +ℤ p *ℤ d) *ℤ q ≡ b *ℤ (n *ℤ p)
turned n a b p q d h =
    let left : (n *ℤ a +ℤ p *ℤ d) *ℤ q ≡ a *ℤ (n *ℤ q) +ℤ d *ℤ (p *ℤ q) = simp ring_laws in
    let right : (n *ℤ b +ℤ q *ℤ neg_ℤ d) *ℤ p ≡ b *ℤ (n *ℤ p) +ℤ neg_ℤ (d *ℤ (p *ℤ q)) = simp ring_laws in
    omega (arith, linear, h, left, right)

same-raised : (n : ℕ) (v w : ℕ → ℤ) (d : ℤ) (x z : Allocation) → IsSame (game n v) x (raised n (neg_ℤ d) z)
    → IsSame (game n w) (raised n d x) z
same-raised n v w d x z same i lt =
    ap (λ (u : ℤ). u *ℤ z.den) (share-raised n d x i lt)
    ∙ turned (pos n) (share x i) (share z i) x.den z.den d
    (same i lt ∙ ap (λ (u : ℤ). u *ℤ x.den) (share-raised n (neg_ℤ d) z i lt))

-- ---- the order of excesses

entry-raised : (c n p q d m k : ℤ) → k ≡ n *ℤ m -ℤ c *ℤ (p *ℤ d) → q *ℤ k ≡ (n *ℤ q) *ℤ m -ℤ c *ℤ (d *ℤ (p *ℤ q))
entry-raised c n p q d m k h =
    let e : q *ℤ (n *ℤ m -ℤ c *ℤ (p *ℤ d)) ≡ (n *ℤ q) *ℤ m -ℤ c *ℤ (d *ℤ (p *ℤ q)) = simp ring_laws in
    ap (◌*ℤ◌ q) h ∙ e

entry-back : (c n p q d m k : ℤ) → k ≡ n *ℤ m -ℤ c *ℤ (q *ℤ neg_ℤ d)
    → (n *ℤ p) *ℤ m ≡ p *ℤ k -ℤ c *ℤ (d *ℤ (p *ℤ q))
entry-back c n p q d m k h =
    let e : p *ℤ (n *ℤ m -ℤ c *ℤ (q *ℤ neg_ℤ d)) ≡ (n *ℤ p) *ℤ m +ℤ c *ℤ (d *ℤ (p *ℤ q)) = simp ring_laws in
    omega (arith, linear, e, ap (◌*ℤ◌ p) h)

module _ (n : ℕ) (v w : ℕ → ℤ) (d : ℤ) (few : n ≤ 16) (some : 1 ≤ n)
    (whole : w (grand_coalition n) ≡ v (grand_coalition n) +ℤ d)
    (others : (s : ℕ) → s < 2 ^ n → s ≢ grand_coalition n → w s ≡ v s) where
  -- what the lists of x and z have less
  abbrev taken_off : Allocation → Allocation → ℤ
  taken_off x z = pos 720720 *ℤ (d *ℤ (x.den *ℤ z.den))

  list-raised : (x z : Allocation) → length x.shares ≡ n
      → excess_list PerHead (game n w) (raised n d x) z.den
      ≡ lessened (taken_off x z) (excess_list PerHead (game n v) x (pos n *ℤ z.den))
  list-raised x z long =
      values-lessened (taken_off x z) (λ s. z.den *ℤ measured_excess PerHead (game n w) (raised n d x) s)
      (λ s. (pos n *ℤ z.den) *ℤ measured_excess PerHead (game n v) x s) 1 (2 ^ n - 2)
      (λ s low high. entry-raised (pos 720720) (pos n) x.den z.den d (measured_excess PerHead (game n v) x s)
      (measured_excess PerHead (game n w) (raised n d x) s)
      (measured-raised n v w d x s few (omega arith) (omega arith) long
      (others s (omega arith) (λ e. omega arith))))

  list-back : (x z : Allocation) → length z.shares ≡ n
      → excess_list PerHead (game n w) z (pos n *ℤ x.den)
      ≡ lessened (taken_off x z) (excess_list PerHead (game n v) (raised n (neg_ℤ d) z) x.den)
  list-back x z long =
      values-lessened (taken_off x z) (λ s. (pos n *ℤ x.den) *ℤ measured_excess PerHead (game n w) z s)
      (λ s. x.den *ℤ measured_excess PerHead (game n v) (raised n (neg_ℤ d) z) s) 1 (2 ^ n - 2)
      (λ s low high. entry-back (pos 720720) (pos n) x.den z.den d (measured_excess PerHead (game n w) z s)
      (measured_excess PerHead (game n v) (raised n (neg_ℤ d) z) s)
      (measured-raised n w v (neg_ℤ d) z s few (omega arith) (omega arith) long
      (sym (others s (omega arith) (λ e. omega arith)))))

  beats-raised : (x z : Allocation) → length x.shares ≡ n → length z.shares ≡ n
      → Beats PerHead (game n v) x (raised n (neg_ℤ d) z) → Beats PerHead (game n w) (raised n d x) z
  beats-raised x z long_x long_z h =
      subst
      (λ (zs : List ℤ). ComesBefore (sorted zs) (sorted (excess_list PerHead (game n w) z (pos n *ℤ x.den))))
      (sym (list-raised x z long_x))
      (subst
      (λ (zs : List ℤ). ComesBefore
      (sorted (lessened (taken_off x z) (excess_list PerHead (game n v) x (pos n *ℤ z.den)))) (sorted zs))
      (sym (list-back x z long_z))
      (order-lessened (taken_off x z) (excess_list PerHead (game n v) x (pos n *ℤ z.den))
      (excess_list PerHead (game n v) (raised n (neg_ℤ d) z) x.den) h))

  nucleolus-raised : (x : Allocation) → IsNucleolus Preimputations PerHead (game n v) x
      → IsNucleolus Preimputations PerHead (game n w) (raised n d x)
  nucleolus-raised x h = (
    family-raised n v w d x some whole h.0,
    λ z hz differs. beats-raised x z h.0.0.0 hz.0.0
        (h.1 (raised n (neg_ℤ d) z) (family-raised n w v (neg_ℤ d) z some back hz)
        (λ same. differs (same-raised n v w d x z same))),
  )
    where
      back : v (grand_coalition n) ≡ w (grand_coalition n) +ℤ neg_ℤ d
      back = omega (arith, linear, whole)

-- ---- the shares

equal_part : (n a b p q d : ℤ) → (n *ℤ a +ℤ p *ℤ d) *ℤ q ≡ b *ℤ (n *ℤ p) → n *ℤ (b *ℤ p -ℤ a *ℤ q) ≡ d *ℤ (p *ℤ q)
equal_part n a b p q d h =
    let right : b *ℤ (n *ℤ p) ≡ n *ℤ (b *ℤ p) = mul_left_commℤ b n p in
    omega (sorted_products, h, right)

pub per_head_parts : PerHeadEachGetsAnEqualPart
per_head_parts d g h x y i few grows hx hy lt =
    let n = g.players in
    let r = nucleolus-raised n g.worth h.worth d few (omega (arith, lt)) grows.more grows.others x hx in
    let hy_n = subst (λ (m : ℕ). IsNucleolus Preimputations PerHead (game m h.worth) y) grows.players hy in
    let same = nucleolus_unique Preimputations PerHead (game n h.worth) (raised n d x) y r hy_n i lt in
    equal_part (pos n) (share x i) (share y i) x.den y.den d
    (ap (λ (u : ℤ). u *ℤ y.den) (sym (share-raised n d x i lt)) ∙ same)

-- beside core points the nucleolus is the prenucleolus
pub with_cores : WithCoresTheNucleolusDoes
with_cores d g h x y a b i few grows core_a core_b hx hy lt =
    per_head_parts d g h x y i few grows ((both_are_one PerHead g x a (inr few) core_a).1 hx)
    ((both_are_one PerHead h y b (inr (subst (λ (m : ℕ). m ≤ 16) (sym grows.players) few)) core_b).1 hy) lt
