-- The level of the half players of one claim has its form, and holds.
use Rattle.std.proofs.Common.{◌≡◌, ◌≢◌, ◌⊎◌, ℕ, zero, suc, ◌+◌, ◌-◌, ◌^◌, ◌<◌}
use Rattle.std.proofs.Common.{◌≤◌, Bool, List, [], ◌++◌}
use Rattle.std.proofs.Common.{length, ℤ, pos, ◌+ℤ◌, ◌*ℤ◌, neg_ℤ, ◌≤ℤ◌, sym, ap, ◌∙◌}
use Rattle.std.proofs.Common.{inl, inr, arith}
use Rattle.std.proofs.lemmas.Int.{ints}
use Rattle.std.proofs.Math.Pow.{pow-lt}
use Rattle.definitions.proofs.Ring.{ring_laws, linear, add-mulℤ}
use Rattle.definitions.specs.Coalitions.{grand_coalition, weight_at}
use Rattle.definitions.specs.Games.{Allocation, share, excess}
use Rattle.definitions.specs.Certificates.{Level, number_at, Ascends, IsSmall, LevelForm, LevelHolds, HasExcess}
use Rattle.definitions.specs.declared.Family.{Family}
use Rattle.definitions.specs.declared.Mode.TheVariants.{Players}
use Rattle.orders.specs.Orders.{IsOrder}
use Rattle.kohlberg.proofs.Conditions.{proper, level_excess, level_most}
use Rattle.talmud.specs.Rule.{cut}
use Rattle.talmud.specs.Levels.{single, others, with_both, IsHalfLevel}
use Rattle.talmud.proofs.Worths.{Divides, game_of, excess-singleton, excess-others}
use Rattle.talmud.proofs.ByPlace.{IsRule}
use Rattle.talmud.proofs.Excesses.{Divides-rule, half_least, enough}
use Rattle.talmud.proofs.Keys.{single-has, single-lacks, others-has, others-lacks, all-both}
use Rattle.talmud.proofs.Keys.{length-both, ascends-both, ascends-one, weight-both}
use Rattle.talmud.proofs.Covering.{Covers, outside_most, fixes}
use Rattle.definitions.specs.declared.Measure.TheVariants.{Plain}
use Rattle.definitions.proofs.Alls.{all_join}
use Rattle.definitions.proofs.UnitWeights.{one_small, one_le}

-- ---- proper coalitions

other_place : (j n : ℕ) → j < n → 2 ≤ n → (h : ℕ) × (h < n) × (j ≢ h)
other_place zero n lt two = (1, omega arith, λ e. omega arith)
other_place (suc j) n lt two = (0, omega arith, λ e. omega arith)

pub others_proper : (n : ℕ) (cost at : ℕ → ℕ) → IsOrder n cost at → 2 ≤ n → (j : ℕ) → j < n
    → (0 < others n at j) × (others n at j < grand_coalition n)
others_proper n cost at o two j lt = with_other (other_place j n lt two)
  where
    others_within : others n at j < 2 ^ n
    others_within = omega (arith, pow-lt (o.below j lt))

    with_other : ((h : ℕ) × (h < n) × (j ≢ h)) → (0 < others n at j) × (others n at j < grand_coalition n)
    with_other (h, hn, ne) =
        proper n (others n at j) (at h) (at j) others_within (others-has n cost at o j h lt hn ne) (o.below j lt)
        (others-lacks n cost at o j lt)

pub single_proper : (n : ℕ) (cost at : ℕ → ℕ) → IsOrder n cost at → 2 ≤ n → (j : ℕ) → j < n
    → (0 < single at j) × (single at j < grand_coalition n)
single_proper n cost at o two j lt = with_other (other_place j n lt two)
  where
    with_other : ((h : ℕ) × (h < n) × (j ≢ h)) → (0 < single at j) × (single at j < grand_coalition n)
    with_other (h, hn, ne) =
        proper n (single at j) (at j) (at h) (pow-lt (o.below j lt)) (single-has at j) (o.below h hn)
        (single-lacks n cost at o j h lt hn ne)

-- ---- half levels

-- of three places and more any, and of two the first
ascends-half : (n : ℕ) (cost at : ℕ → ℕ) (m i k : ℕ) (l : Level) → m ≤ n → IsOrder n cost at
    → IsHalfLevel n cost at m i k l → Ascends 0 (with_both n at i (k - i))
ascends-half n cost at m i k l mn o b = elim (three_or_two n b.two) [
  | inl three ↦ ascends-both n cost at o three i (k - i)
      (omega arith)
  | inr two ↦ rw (one_apart k i (b.end.pair two)) (ascends-one n cost at o i (omega arith))
]
  where
    three_or_two : (n : ℕ) → i + 2 ≤ n → (3 ≤ n) ⊎ (n ≡ 2)
    three_or_two n h = grind arith

    one_apart : (k i : ℕ) → k ≡ i + 1 → k - i ≡ 1
    one_apart k i e = omega arith

pub half_form : (n : ℕ) (cost at : ℕ → ℕ) (m i k : ℕ) (levels : List Level) (l : Level) → n ≤ 64 → m ≤ n
    → IsOrder n cost at → IsHalfLevel n cost at m i k l → LevelForm n levels l
half_form n cost at m i k levels l most mn o b =
    let some = b.end.some in
    let two : 2 ≤ n = omega arith in
    let count = ap length b.coalitions ∙ length-both n at i (k - i) in
    record {
      fraction = b.fraction;
      some = omega arith;
      few = omega arith;
      few_earlier = rw b.earlier (omega arith);
      proper = rw b.coalitions
          (all-both (λ c. (0 < c.0) × (c.0 < grand_coalition n)) n at i (k - i)
          (λ j low high. single_proper n cost at o two j (omega arith))
          (λ j low high. others_proper n cost at o two j (omega arith)));
      listed = rw b.earlier tt;
      players = rw b.bounds tt;
      ascend = rw b.coalitions (ascends-half n cost at m i k l mn o b);
      earlier_ascend = rw b.earlier tt;
      bounds_ascend = rw b.bounds tt;
      small = rw (b.coalitions, b.earlier, b.bounds)
          (all_join (λ p. IsSmall p.1) (with_both n at i (k - i) ++ []) []
          (all_join (λ p. IsSmall p.1) (with_both n at i (k - i)) []
          (all-both (λ p. IsSmall p.1) n at i (k - i) (λ j low high. one_small) (λ j low high. one_small)) tt)
          tt);
      total_small = rw b.total (small_total (k - i) (omega arith));
    }
  where
    small_total : (b : ℕ) → b ≤ 64 → IsSmall (pos b)
    small_total b h = omega (arith, ints)

half_balanced : (n : ℕ) (cost at : ℕ → ℕ) (m i k : ℕ) (l : Level) → m ≤ n → IsOrder n cost at
    → IsHalfLevel n cost at m i k l → (j : ℕ) → j < n
    → weight_at l.coalitions j +ℤ weight_at l.earlier j +ℤ number_at l.bounds j ≡ l.total
half_balanced n cost at m i k l mn o b j lt =
    rw (b.coalitions, b.earlier, b.bounds, b.total)
    (omega (arith, ints, weight-both n cost at o i (k - i) j (omega arith) lt))

-- minus half of a claim, over the denominator of the shares
half_excess : (y c den en ed : ℤ) → y +ℤ y ≡ den *ℤ c → en *ℤ pos 2 ≡ neg_ℤ c *ℤ ed → neg_ℤ y *ℤ ed ≡ en *ℤ den
half_excess y c den en ed h e = doubled (neg_ℤ y *ℤ ed) (en *ℤ den) (left ∙ sym right)
  where
    doubled : (u v : ℤ) → u +ℤ u ≡ v +ℤ v → u ≡ v
    doubled u v e = omega (arith, ints)

    left : neg_ℤ y *ℤ ed +ℤ neg_ℤ y *ℤ ed ≡ neg_ℤ (den *ℤ c) *ℤ ed
    left = sym (add-mulℤ (neg_ℤ y) (neg_ℤ y) ed) ∙ ap (λ (z : ℤ). z *ℤ ed) (sum_neg y (den *ℤ c) h)
      where
        sum_neg : (u v : ℤ) → u +ℤ u ≡ v → neg_ℤ u +ℤ neg_ℤ u ≡ neg_ℤ v
        sum_neg u v e = omega (arith, linear)

    right : en *ℤ den +ℤ en *ℤ den ≡ neg_ℤ (den *ℤ c) *ℤ ed
    right = twice (en *ℤ den) ∙ swap ∙ ap (λ (z : ℤ). den *ℤ z) e ∙ back
      where
        twice : (u : ℤ) → u +ℤ u ≡ u *ℤ pos 2
        twice u = omega (arith, ints)

        swap : (en *ℤ den) *ℤ pos 2 ≡ den *ℤ (en *ℤ pos 2)
        swap = simp ring_laws (omega (arith, linear))

        back : den *ℤ (neg_ℤ c *ℤ ed) ≡ neg_ℤ (den *ℤ c) *ℤ ed
        back = simp ring_laws (omega (arith, linear))

pub half_holds : (family : Family) (estate : ℕ) (claims : List ℕ) (at : ℕ → ℕ) (m : ℕ) (gain : Bool) (t : ℤ)
    (x : Allocation) (i k : ℕ) (levels : List Level) (l : Level) → IsRule estate claims at m gain t x
    → IsHalfLevel (length claims) (cut estate claims) at m i k l → Covers (length claims) at i levels
    → LevelHolds Players family Plain (game_of estate claims) x levels l
half_holds family estate claims at m gain t x i k levels l r b c = record {
  excesses = rw b.coalitions
      (all-both (λ c. HasExcess Plain (game_of estate claims) x l c.0) (length claims) at i (k - i)
      (λ j low high. level_excess _ (share x (at i)) l.excess_num l.excess_den x.den (mine j low (inside j high))
      excess_is)
      (λ j low high. level_excess _ (share x (at i)) l.excess_num l.excess_den x.den (theirs j low (inside j high))
      excess_is));
  weights = rw b.coalitions
      (all-both (λ c. pos 1 ≤ℤ c.1) (length claims) at i (k - i) (λ j low high. one_le) (λ j low high. one_le));
  bound_weights = rw b.bounds tt;
  balanced = half_balanced (length claims) (cut estate claims) at m i k l r.within r.order b;
  tight = rw b.bounds tt;
  outside = λ s small out. level_most (excess (game_of estate claims) x s) (share x (at i)) l.excess_num
      l.excess_den x.den b.fraction
      (outside_most estate claims at m gain t x i (share x (at i)) levels r (fixes (length claims) at i levels c)
      (λ p le lt. half_least estate claims at m gain t x r i p start le lt) s small out) excess_is;
}
  where
    d : Divides estate claims x
    d = Divides-rule estate claims at m gain t x r

    start : i < m
    start = omega arith

    inside : (j : ℕ) → j < i + (k - i) → j < k
    inside j h = omega arith

    below : (j : ℕ) → j < k → j < m
    below j h = omega arith

    place : (j : ℕ) → j < k → j < length claims
    place j h = omega arith

    twice : (j : ℕ) → j < m → share x (at j) +ℤ share x (at j) ≡ x.den *ℤ pos (cut estate claims (at j))
    twice j lt = omega (arith, linear, r.half j lt)

    -- equal claims have equal halves
    equal_halves : (j : ℕ) → i ≤ j → j < k → share x (at j) ≡ share x (at i)
    equal_halves j low high =
        equal _ _ _ (twice j (below j high) ∙ ap (λ (n : ℕ). x.den *ℤ pos n) (b.end.same j low high)) (twice i start)
      where
        equal : (u v w : ℤ) → u +ℤ u ≡ w → v +ℤ v ≡ w → u ≡ v
        equal u v w e f = omega (arith, ints)

    excess_is : neg_ℤ (share x (at i)) *ℤ l.excess_den ≡ l.excess_num *ℤ x.den
    excess_is =
        half_excess (share x (at i)) (pos (cut estate claims (at i))) x.den l.excess_num l.excess_den (twice i start)
        b.excess

    mine : (j : ℕ) → i ≤ j → j < k → excess (game_of estate claims) x (single at j) ≡ neg_ℤ (share x (at i))
    mine j low high =
        excess-singleton estate claims x (at j) d (r.order.below j (place j high))
        (enough estate claims at m gain t x r j (below j high)) ∙ ap neg_ℤ (equal_halves j low high)

    theirs : (j : ℕ) → i ≤ j → j < k
        → excess (game_of estate claims) x (others (length claims) at j) ≡ neg_ℤ (share x (at i))
    theirs j low high =
        excess-others estate claims x (at j) d (r.order.below j (place j high))
        ∙ ap neg_ℤ (sym (r.half j (below j high)) ∙ equal_halves j low high)
