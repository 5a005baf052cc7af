-- Of a convex game, at an imputation that some coalition blocks, an objection can't be countered (Maschler, Peleg and
-- Shapley 1972). What the members of the coalition p of the greatest excess can get more is as z has it, and of that
-- player k leaves a little to each of the others. Who would counter without k needs the excess of a coalition, which is
-- at most what z gives it: so no member of p can be in it, and p with it would have no less excess.
use Rattle.std.proofs.Common.{◌≡◌, ◌≢◌, ℕ, zero, suc, ◌^◌, ◌<◌, ◌≤◌, Bool, true, false, ◌&&◌, ◌||◌, not, cond, map, ℤ}
use Rattle.std.proofs.Common.{pos, ◌+ℤ◌, ◌*ℤ◌, ◌<ℤ◌, ◌≤ℤ◌, neg_ℤ, sym, ap, ◌∙◌, inl, inr, arith}
use Rattle.std.specs.List.{range_with_len}
use Rattle.std.proofs.lemmas.Bool.{false≢true}
use Rattle.std.proofs.lemmas.Int.{ints}
use Rattle.std.proofs.lemmas.List.FromFn.{get_or-map-range_with_len, length-map-range_with_len}
use Rattle.std.proofs.Math.Pow.{pow_pos}
use Rattle.definitions.proofs.Cases.{below_or_above, same_or_other, true_or_false, not_true, and_parts, or_right}
use Rattle.definitions.proofs.Halves.{size_below, size_below-zero, size_below-yes, size_below-no, size_below-some}
use Rattle.definitions.proofs.Members.{has_player-empty, has_player-singleton, has_player-singleton_other}
use Rattle.definitions.proofs.Members.{sum_below-same, sum_over-nonnegative}
use Rattle.definitions.proofs.Parts.{part, sum_below-le}
use Rattle.definitions.proofs.Ring.{ring_laws, linear, mul-leℤ, mul-le_cancelℤ, mul-positiveℤ, mul-nonnegativeℤ}
use Rattle.definitions.proofs.SumsOver.{sum_over-same, sum_over-add, sum_over-times, amount-at}
use Rattle.definitions.specs.Coalitions.{has_player, singleton, sum_over}
use Rattle.definitions.specs.Convexity.{IsConvex}
use Rattle.definitions.specs.Games.{Game, Allocation, share, amount, excess, IsAllocation, Blocks}
use Rattle.theorems.proofs.Moves.{parted, joined as both_tests}
use Rattle.law_answers.proofs.RenumberedCoalitions.{coalition_where-within, coalition_where-has, same_below}
use Rattle.law_answers.proofs.UnanimityGames.{misses-less}
use Rattle.law_stability.specs.BargainingSet.{GetsMore, IsObjection, IsCounter, InBargainingSet}
use Rattle.law_stability.specs.ConvexCores.{ConvexBargainingSetIsCore}
use Rattle.law_stability.proofs.BargainingSet.{core_in_bargaining_set, one_of_all}
use Rattle.law_answers.proofs.AtPlayer.{sum_over-at_player}
use Rattle.law_stability.proofs.Covers.{lies_in, lies_from}
use Rattle.law_stability.proofs.GreatestGain.{Gain, gain, empty_nothing}
use Rattle.law_stability.proofs.Supermodular.{excess-both}
use Rattle.law_stability.proofs.Unions.{union, common}
use Rattle.theorems.proofs.Products.{products, sorted_products}

members_le : (n s : ℕ) (a b : ℕ → ℤ) → ((i : ℕ) → i < n → has_player s i ≡ true → a i ≤ℤ b i)
    → sum_over n a s ≤ℤ sum_over n b s
members_le n s a b h = sum_below-le n (part a s) (part b s) (λ i lt. by_test (has_player s i) (a i) (b i) (h i lt))
  where
    by_test : (c : Bool) (y z : ℤ) → (c ≡ true → y ≤ℤ z) → cond c y (pos 0) ≤ℤ cond c z (pos 0)
    by_test c y z h = grind (arith, linear)

sum_over-ones : (n s : ℕ) → sum_over n (λ i. pos 1) s ≡ pos (size_below n s)
sum_over-ones zero s = sym (ap pos (size_below-zero s))
sum_over-ones (suc n) s =
    let ih = sum_over-ones n s in
    elim (true_or_false (has_player s n)) [
      | inl inside ↦ rw inside (omega (arith, linear, ih, ap pos (size_below-yes n s inside), next (size_below n s)))
      | inr outside ↦ rw outside (omega (arith, linear, ih, ap pos (size_below-no n s outside)))
    ]
  where
    next : (k : ℕ) → pos (suc k) ≡ pos k +ℤ pos 1
    next k = omega (arith, ints)

-- ---- the objection

module _ (g : Game) (convex : IsConvex g) (nobody : g.worth 0 ≡ pos 0) (x : Allocation) (hx : IsAllocation g x)
    (gain : Gain g x) where
  abbrev n : ℕ
  n = g.players

  abbrev e : ℕ → ℤ
  e r = excess g x r

  abbrev z : Allocation
  z = gain.z

  abbrev top : ℤ
  top = gain.top

  abbrev p : ℕ
  p = gain.p

  abbrev k : ℕ
  k = gain.k

  abbrev l : ℕ
  l = gain.l

  abbrev c : ℤ
  c = pos (size_below n p)

  c_some : pos 1 ≤ℤ c
  c_some = let some = size_below-some n k p gain.hk gain.k_in in omega (arith, linear, some)

  -- what each gets more: c times its share of z, and 1 of what k leaves
  abbrev extra : ℕ → ℤ
  extra i = (c *ℤ share z i +ℤ part (λ j. pos 1) p i) +ℤ part (λ j. neg_ℤ c) (singleton k) i

  abbrev scale : ℤ
  scale = c *ℤ z.den

  abbrev raised : ℕ → ℤ
  raised i = scale *ℤ share x i +ℤ extra i

  abbrev y : Allocation
  y = record { shares = map raised (range_with_len 0 n); den = scale *ℤ x.den }

  scale_positive : pos 0 <ℤ scale
  scale_positive = mul-positiveℤ c z.den (omega (arith, linear, c_some)) gain.z_positive

  share-y : (i : ℕ) → i < n → share y i ≡ raised i
  share-y i lt = get_or-map-range_with_len raised 0 n i i (pos 0) lt (omega arith)

  extra-sum : (q : ℕ)
      → sum_over n extra q
      ≡ (c *ℤ sum_over n (share z) q +ℤ sum_over n (part (λ j. pos 1) p) q) +ℤ cond (has_player q k) (neg_ℤ c) (pos 0)
  extra-sum q =
      omega (
        products,
        sum_over-add n (λ i. c *ℤ share z i +ℤ part (λ j. pos 1) p i) (part (λ j. neg_ℤ c) (singleton k)) q,
        sum_over-add n (λ i. c *ℤ share z i) (part (λ j. pos 1) p) q,
        sum_over-times n (share z) c q,
        sum_over-at_player n q k (neg_ℤ c) gain.hk,
      )

  raised-sum : (q : ℕ) → sum_over n raised q ≡ scale *ℤ amount x q +ℤ sum_over n extra q
  raised-sum q =
      omega (
        products,
        sum_over-add n (λ i. scale *ℤ share x i) extra q,
        sum_over-times n (share x) scale q,
        ap (◌*ℤ◌ scale) (amount-at g x q hx),
      )

  -- each member of p gets more
  extra-some : (i : ℕ) → i < n → has_player p i ≡ true → pos 1 ≤ℤ extra i
  extra-some i lt inside =
      let one = ap (λ (b : Bool). cond b (pos 1) (pos 0)) inside in
      elim (same_or_other i k) [
        | inl same ↦
            let left =
            ap (λ (b : Bool). cond b (neg_ℤ c) (pos 0)) (ap (has_player (singleton k)) same ∙ has_player-singleton k) in
            let much =
            mul-leℤ c (pos 1) (share z k) (omega (arith, linear, c_some)) (omega (arith, linear, gain.k_gains)) in
            omega (products, one, left, much, ap (λ (j : ℕ). c *ℤ share z j) same)
        | inr other ↦
            let none = ap (λ (b : Bool). cond b (neg_ℤ c) (pos 0)) (has_player-singleton_other k i other) in
            let some = mul-nonnegativeℤ c (share z i) (omega (arith, linear, c_some)) (gain.nonnegative i lt) in
            omega (arith, linear, one, none, some)
      ]

  gets_more : (i : ℕ) → i < n → has_player p i ≡ true → GetsMore x y i
  gets_more i lt inside =
      let some = extra-some i lt inside in
      let up = mul-positiveℤ (extra i) x.den (omega (arith, linear, some)) (omega (arith, linear, hx.1)) in
      omega (products, up, ap (λ (u : ℤ). u *ℤ x.den) (share-y i lt), turned (share x i) scale x.den)
    where
      turned : (a b d : ℤ) → a *ℤ (b *ℤ d) ≡ (b *ℤ a) *ℤ d
      turned a b d = simp ring_laws

  divides : amount y p ≡ (scale *ℤ x.den) *ℤ g.worth p
  divides =
      let ones : sum_over n (part (λ j. pos 1) p) p ≡ c =
      sum_below-same n (part (part (λ j. pos 1) p) p) (part (λ j. pos 1) p) (λ i lt. by_test (has_player p i))
      ∙ sum_over-ones n p in
      omega (
        sorted_products,
        ap (λ (m : ℕ). sum_over m (share y) p) (length-map-range_with_len raised 0 n),
        sum_over-same n (share y) raised p share-y,
        raised-sum p,
        extra-sum p,
        ones,
        ap (λ (b : Bool). cond b (neg_ℤ c) (pos 0)) gain.k_in,
        ap (◌*ℤ◌ c) gain.p_gets,
        ap (◌*ℤ◌ scale) (sym gain.p_top),
      )
    where
      by_test : (b : Bool) → cond b (cond b (pos 1) (pos 0)) (pos 0) ≡ cond b (pos 1) (pos 0)
      by_test b = grind arith

  objection : IsObjection g x k l p y
  objection = record {
    within = gain.p_within;
    without = both_tests (has_player p k) (has_player p l) gain.k_in (ap not gain.l_out);
    shares = (
      length-map-range_with_len raised 0 n,
      (omega (arith, linear, mul-positiveℤ scale x.den scale_positive (omega (arith, linear, hx.1)))),
    );
    divides = divides;
    no_less = λ i lt inside. (let more = gets_more i lt inside in omega (arith, linear, more));
    more = gets_more k gain.hk gain.k_in;
  }

  -- ---- no counter objection

  module _ (q : ℕ) (u : Allocation) (o : IsCounter g x k l p y q u) where
    parts : (has_player q l ≡ true) × (not (has_player q k) ≡ true)
    parts = parted (has_player q l) (has_player q k) o.without

    k_not : has_player q k ≡ false
    k_not = not_true (has_player q k) (λ inside. false≢true (sym (ap not inside) ∙ parts.1))

    each_needs : (i : ℕ) → i < n → has_player q i ≡ true → (u.den *ℤ raised i) ≤ℤ ((scale *ℤ x.den) *ℤ share u i)
    each_needs i lt inside = elim (true_or_false (has_player p i)) [
      | inl in_p ↦
          omega (sorted_products, o.as_promised i lt inside in_p, ap (λ (a : ℤ). a *ℤ u.den) (share-y i lt))
      | inr out ↦
          let le = o.as_before i lt inside out in
          let more =
          mul-leℤ scale (share x i *ℤ u.den) (share u i *ℤ x.den) (omega (arith, linear, scale_positive)) le in
          let ne : i ≢ k = λ same. false≢true (sym out ∙ ap (has_player p) same ∙ gain.k_in) in
          let nothing : extra i ≡ pos 0 =
          omega (
            products,
            ap (◌*ℤ◌ c) (gain.others_get_nothing i lt out),
            ap (λ (b : Bool). cond b (pos 1) (pos 0)) out,
            ap (λ (b : Bool). cond b (neg_ℤ c) (pos 0)) (has_player-singleton_other k i ne),
          ) in
          omega
          (products, more, ap (◌*ℤ◌ u.den) nothing, first (share x i) scale u.den, second (share u i) scale x.den)
    ]
      where
        first : (a b d : ℤ) → d *ℤ (b *ℤ a) ≡ b *ℤ (a *ℤ d)
        first a b d = simp ring_laws

        second : (a b d : ℤ) → (b *ℤ d) *ℤ a ≡ b *ℤ (a *ℤ d)
        second a b d = simp ring_laws

    -- so the excess of q, times the scale, covers what its members would get more
    extra_covered : sum_over n extra q ≤ℤ (scale *ℤ e q)
    extra_covered =
        let got = sym (amount-at g u q o.shares) ∙ o.divides in
        let most =
        mul-le_cancelℤ u.den (sum_over n raised q) (scale *ℤ (x.den *ℤ g.worth q)) (omega (arith, linear, o.shares.1))
        (omega (
          products,
          members_le n q (λ i. u.den *ℤ raised i) (λ i. (scale *ℤ x.den) *ℤ share u i) each_needs,
          sum_over-times n raised u.den q,
          sum_over-times n (share u) (scale *ℤ x.den) q,
          ap (◌*ℤ◌ ((scale *ℤ x.den))) got,
          turned scale x.den u.den (g.worth q),
        )) in
        omega (products, most, raised-sum q)
      where
        turned : (a b d t : ℤ) → (a *ℤ b) *ℤ (d *ℤ t) ≡ d *ℤ (a *ℤ (b *ℤ t))
        turned a b d t = simp ring_laws

    covered : (scale *ℤ e q) ≤ℤ (c *ℤ sum_over n (share z) q)
    covered =
        let some = gain.reach q o.within in
        omega
        (sorted_products, mul-leℤ c (z.den *ℤ e q) (sum_over n (share z) q) (omega (arith, linear, c_some)) some)

    sums : sum_over n extra q ≡ c *ℤ sum_over n (share z) q +ℤ sum_over n (part (λ j. pos 1) p) q
    sums = omega (arith, linear, extra-sum q, ap (λ (b : Bool). cond b (neg_ℤ c) (pos 0)) k_not)

    ones_low : (i : ℕ) → i < n → pos 0 ≤ℤ part (λ j. pos 1) p i
    ones_low i lt = by_test (has_player p i)
      where
        by_test : (b : Bool) → pos 0 ≤ℤ cond b (pos 1) (pos 0)
        by_test b = grind (arith, linear)

    -- no member of p is in q
    apart : (i : ℕ) → i < n → (has_player p i && has_player q i) ≡ false
    apart i lt =
        not_true (has_player p i && has_player q i)
        (λ both.
        let in_both = and_parts (has_player p i) (has_player q i) both in
        let here : part (part (λ j. pos 1) p) q i ≡ pos 1 =
        ap (λ (b : Bool). cond b (part (λ j. pos 1) p i) (pos 0)) in_both.1
        ∙ ap (λ (b : Bool). cond b (pos 1) (pos 0)) in_both.0 in
        let one = one_of_all n i (part (part (λ j. pos 1) p) q)
        (λ j hj. by_test (has_player q j) (part (λ j. pos 1) p j) (ones_low j hj)) lt in
        omega (arith, linear, one, here, sums, extra_covered, covered))
      where
        by_test : (b : Bool) (a : ℤ) → pos 0 ≤ℤ a → pos 0 ≤ℤ cond b a (pos 0)
        by_test b a h = grind (arith, linear)

    -- so p with q has no less excess than p
    q_low : pos 0 ≤ℤ e q
    q_low =
        let some = mul-nonnegativeℤ c (sum_over n (share z) q) (omega (arith, linear, c_some))
        (sum_over-nonnegative n q (share z) gain.nonnegative) in
        mul-le_cancelℤ scale (pos 0) (e q) scale_positive
        (omega (products, some, sum_over-nonnegative n q (part (λ j. pos 1) p) ones_low, sums, extra_covered))

    never : ⊥
    never =
        let r = union n p q in
        let r_within = coalition_where-within n (λ i. has_player p i || has_player q i) in
        let none : common n p q ≡ 0 =
        same_below n (common n p q) 0 (coalition_where-within n (λ i. has_player p i && has_player q i)) (pow_pos n)
        (λ i lt. coalition_where-has n (λ i. has_player p i && has_player q i) i lt ∙ apart i lt
        ∙ sym (has_player-empty i)) in
        let both = excess-both g x p q convex hx gain.p_within o.within in
        let r_top : e r ≡ top =
        omega (arith, linear, both, ap e none, empty_nothing g x nobody, gain.p_top, q_low, gain.low r r_within) in
        let inside : lies_in n p r ≡ true = lies_from n p r
        (λ i lt h. coalition_where-has n (λ i. has_player p i || has_player q i) i lt
        ∙ ap (λ (b : Bool). b || has_player q i) h) in
        let ge : p ≤ r = elim (below_or_above r p) [
          | inl less ↦ absurd (false≢true (sym (ap not (misses-less n p r gain.p_within less)) ∙ inside))
          | inr more ↦ more
        ] in
        let same : r ≡ p = omega (arith, gain.p_last r r_within r_top, ge) in
        false≢true
        (sym gain.l_out ∙ ap (λ (t : ℕ). has_player t l) (sym same)
        ∙ coalition_where-has n (λ i. has_player p i || has_player q i) l gain.hl
        ∙ or_right (has_player p l) (has_player q l) parts.0)

-- ---- the bargaining set

unblocked : (g : Game) (x : Allocation) → g.worth 0 ≡ pos 0 → IsConvex g → InBargainingSet g x → (s : ℕ)
    → s < 2 ^ g.players → ¬ Blocks g x s
unblocked g x nobody convex h s hs blocks =
    let won = gain g convex nobody x h.0.0 h.0.1 s hs blocks in
    let k_l : won.k ≢ won.l = λ same. false≢true (sym won.l_out ∙ ap (has_player won.p) (sym same) ∙ won.k_in) in
    let counter =
    h.1 won.k won.l won.p (y g convex nobody x h.0.0 won) won.hk won.hl k_l (objection g convex nobody x h.0.0 won) in
    never g convex nobody x h.0.0 won counter.0 counter.1 counter.2

pub bargaining_set_is_core : ConvexBargainingSetIsCore
bargaining_set_is_core g x nobody convex = (
  λ h. (h.0.0, h.0.1, unblocked g x nobody convex h),
  λ h. (core_in_bargaining_set g x h).0,
)
