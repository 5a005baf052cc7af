-- The levels of the blocks have the form of a certificate, and certify the payments.
--
-- The weights of a level balance by who is before the block, in it or after it (Pairs.antt). The players of blocks that
-- are done are fixed (`Covers`). After the last block at most one player is free. A list in its form ascends, so the
-- pairs that it holds fix it (Exactly.antt).
use Rattle.std.proofs.Common.{◌≡◌, ◌≢◌, ◌⊎◌, ℕ, zero, suc, ◌+◌, ◌-◌, ◌^◌, ◌<◌}
use Rattle.std.proofs.Common.{◌≤◌, Bool, true, false}
use Rattle.std.proofs.Common.{cond, nat_lt, nat_eq, List, [], ◌∷◌, ◌++◌, length, ℤ}
use Rattle.std.proofs.Common.{pos, negsuc, ◌+ℤ◌}
use Rattle.std.proofs.Common.{◌-ℤ◌, ◌*ℤ◌, neg_ℤ, ◌≤ℤ◌, refl, sym, ap, ◌∙◌, inl, inr}
use Rattle.std.proofs.Common.{arith}
use Rattle.std.proofs.lemmas.Bool.{false≢true}
use Rattle.std.proofs.lemmas.Int.{ints}
use Rattle.std.proofs.Math.Pow.{pow-lt}
use Rattle.definitions.proofs.Ring.{linear, mul-le_cancelℤ}
use Rattle.definitions.proofs.Members.{sum_over-singleton}
use Rattle.definitions.specs.Sums.{sum_below}
use Rattle.definitions.specs.Coalitions.{has_player, singleton, grand_coalition, weight_at, splits}
use Rattle.definitions.specs.Games.{Allocation, share, excess, IsEfficient}
use Rattle.definitions.specs.Games.{IsIndividuallyRational, InFamily, InCore}
use Rattle.definitions.specs.Certificates.{Level, is_listed, is_free, number_at, Ascends, IsSmall}
use Rattle.definitions.specs.Certificates.{LevelForm, LevelsForm, HasForm, LevelHolds, LevelsHold, HasExcess}
use Rattle.definitions.specs.Certificates.{Certifies}
use Rattle.definitions.specs.declared.Family.{Family}
use Rattle.definitions.specs.declared.Family.TheVariants.{Imputations, Preimputations}
use Rattle.definitions.specs.declared.Mode.TheVariants.{Players}
use Rattle.orders.specs.Orders.{front, IsOrder}
use Rattle.orders.proofs.Fronts.{front-has, front-lacks, front-lt, order-place}
use Rattle.airport_scheme.specs.Scheme.{IsPaid}
use Rattle.airport_scheme.specs.Levels.{with_others, front_pair, IsBlock, IsChain}
use Rattle.airport_scheme.proofs.Excesses.{game_of, cost, amount-at, excess-outside}
use Rattle.airport_scheme.proofs.Excesses.{excess-core, excess-front, excess-others}
use Rattle.kohlberg.proofs.Listed.{listed_before, listed_here}
use Rattle.kohlberg.proofs.Conditions.{proper, splits-two, level_excess, level_most}
use Rattle.airport_scheme.proofs.Pairs.{length-with_others, all-with_others, any-with_others}
use Rattle.airport_scheme.proofs.Pairs.{any-with_others_start, others-has, others-lacks, weight_at-outside}
use Rattle.airport_scheme.proofs.Pairs.{weight_at-inside, ascends-with_others, weight_at-front}
use Rattle.airport_scheme.proofs.Pairs.{weight_at-front_past, all-front}
use Rattle.definitions.specs.declared.Measure.TheVariants.{Plain}
use Rattle.definitions.proofs.Cases.{from_nat_lt, next_or_last, nat_eq-same, below_or_above, nat_lt-less}
use Rattle.definitions.proofs.Alls.{all_join}
use Rattle.definitions.proofs.UnitWeights.{one_small, one_le}

-- ---- what the levels list

-- the levels list all but each of the first i, and the first i
pub record Covers (n : ℕ) (at : ℕ → ℕ) (i : ℕ) (levels : List Level) : Type 0 where
  pub others : (j : ℕ) → j < i → is_listed levels (grand_coalition n - singleton (at j)) ≡ true
  pub fronts : 0 < i → i < n → is_listed levels (front at i) ≡ true

pub Covers-none : (n : ℕ) (at : ℕ → ℕ) → Covers n at 0 []
Covers-none n at = record { others = λ j lt. absurd (omega arith); fronts = λ lt le. absurd (omega arith) }

pub Covers-more : (n : ℕ) (at : ℕ → ℕ) (pay : ℕ → ℤ) (den : ℤ) (i k : ℕ) (levels : List Level) (l : Level)
    → IsBlock n at pay den i k l → Covers n at i levels → Covers n at k (levels ++ l ∷ [])
Covers-more n at pay den i k levels l b h = record {
  others = λ j lt. elim (below_or_above j i) [
    | inl less ↦ listed_before levels l (grand_coalition n - singleton (at j)) (h.others j less)
    | inr low ↦
        let m = grand_coalition n - singleton (at j) in
        listed_here levels l m
        (rw b.coalitions
        (any-with_others (λ c. nat_eq c.0 m) n at (front_pair at k (pos 1) (nat_lt k n)) i (k - i) j low
        (omega arith) (nat_eq-same m)))
  ];
  fronts = λ lt le. listed_here levels l (front at k)
      (rw b.coalitions
      (any-with_others_start (λ c. nat_eq c.0 (front at k)) n at (front_pair at k (pos 1) (nat_lt k n)) i (k - i)
      (grind (arith, nat_lt-less k n le))));
}

-- who is free stands behind the first i
free_place : (n : ℕ) (at : ℕ → ℕ) (i h : ℕ) (levels : List Level) → Covers n at i levels
    → is_free n levels (at h) ≡ true → i ≤ h
free_place n at i h levels c e = elim (below_or_above h i) [
  | inl less ↦ absurd
      (false≢true
      (sym
      (grind (arith, c.others h less)) ∙ e))
  | inr low ↦ low
]

-- ---- a level

within_end : (n i k : ℕ) → i < k → k ≤ n → i + (k - i) ≤ n
within_end n i k a b = omega arith

-- what is balanced at one place
balanced_at : (n : ℕ) (cost at : ℕ → ℕ) → IsOrder n cost at → (i k h : ℕ) (t : Bool) → nat_lt k n ≡ t → i < k
    → k ≤ n → h < n
    → weight_at (with_others n at (front_pair at k (pos 1) t) i (k - i)) (at h)
    +ℤ weight_at (front_pair at i (negsuc 0) (nat_lt 0 i)) (at h) +ℤ pos 0
    ≡ cond t (pos (k - i)) (pos (k - i) -ℤ pos 1)
balanced_at n cost at o i k h t e some le hn = elim (place_cases i k h) [
  | inl less ↦
      let first =
      weight_at-outside n cost at o (front_pair at k (pos 1) t) i (k - i) h (within_end n i k some le) hn
      (inl less) in
      let start = weight_at-front n cost at o k (pos 1) t h le (omega arith) in
      let early = weight_at-front n cost at o i (negsuc 0) (nat_lt 0 i) h (omega arith) less in
      let minus : cond (nat_lt 0 i) (negsuc 0) (pos 0) ≡ negsuc 0 = rw (nat_lt-less 0 i (omega arith)) refl in
      before t (weight_at (with_others n at (front_pair at k (pos 1) t) i (k - i)) (at h))
      (weight_at (front_pair at k (pos 1) t) (at h)) (weight_at (front_pair at i (negsuc 0) (nat_lt 0 i)) (at h))
      (k - i) first start (early ∙ minus)
  | inr (inl (low, high)) ↦
      let first =
      weight_at-inside n cost at o (front_pair at k (pos 1) t) i (k - i) h (within_end n i k some le) low
      (omega arith) in
      let start = weight_at-front n cost at o k (pos 1) t h le high in
      let early = weight_at-front_past n cost at o i (negsuc 0) (nat_lt 0 i) h low hn in
      inside t (weight_at (with_others n at (front_pair at k (pos 1) t) i (k - i)) (at h))
      (weight_at (front_pair at k (pos 1) t) (at h)) (weight_at (front_pair at i (negsuc 0) (nat_lt 0 i)) (at h))
      (k - i) first start early
  | inr (inr high) ↦
      let first =
      weight_at-outside n cost at o (front_pair at k (pos 1) t) i (k - i) h (within_end n i k some le) hn
      (inr (omega arith)) in
      let start = weight_at-front_past n cost at o k (pos 1) t h high hn in
      let early = weight_at-front_past n cost at o i (negsuc 0) (nat_lt 0 i) h (omega arith) hn in
      let inner : t ≡ true = sym e ∙ nat_lt-less k n (omega arith) in
      rw inner
      (behind (weight_at (with_others n at (front_pair at k (pos 1) true) i (k - i)) (at h))
      (weight_at (front_pair at k (pos 1) true) (at h))
      (weight_at (front_pair at i (negsuc 0) (nat_lt 0 i)) (at h)) (k - i) (rw inner at first)
      (rw inner at start) early)
]
  where
    place_cases : (i k h : ℕ) → (h < i) ⊎ (((i ≤ h) × (h < k)) ⊎ (k ≤ h))
    place_cases i k h = grind arith

    before : (t : Bool) (u v w : ℤ) (b : ℕ) → u ≡ v +ℤ pos b → v ≡ cond t (pos 1) (pos 0) → w ≡ negsuc 0
        → u +ℤ w +ℤ pos 0 ≡ cond t (pos b) (pos b -ℤ pos 1)
    before t u v w b e f k = grind (arith, ints)

    inside : (t : Bool) (u v w : ℤ) (b : ℕ) → u ≡ v +ℤ pos b -ℤ pos 1 → v ≡ cond t (pos 1) (pos 0) → w ≡ pos 0
        → u +ℤ w +ℤ pos 0 ≡ cond t (pos b) (pos b -ℤ pos 1)
    inside t u v w b e f k = grind (arith, ints)

    behind : (u v w : ℤ) (b : ℕ) → u ≡ v +ℤ pos b → v ≡ pos 0 → w ≡ pos 0 → u +ℤ w +ℤ pos 0 ≡ pos b
    behind u v w b e f k = omega (arith, ints)

level_balanced : (n : ℕ) (cost at : ℕ → ℕ) (pay : ℕ → ℤ) (den : ℤ) (i k : ℕ) (l : Level) → IsOrder n cost at
    → IsBlock n at pay den i k l → (j : ℕ) → j < n
    → weight_at l.coalitions j +ℤ weight_at l.earlier j +ℤ number_at l.bounds j ≡ l.total
level_balanced n cost at pay den i k l o b j lt =
    let r = order-place n cost at o j lt in
    let e = balanced_at n cost at o i k r.0 (nat_lt k n) refl b.some b.within r.1 in
    rw (b.coalitions, b.earlier, b.bounds, b.total, ← r.2) e

-- ---- the form of a level

pub length-front : (at : ℕ → ℕ) (k : ℕ) (w : ℤ) (t : Bool) → length (front_pair at k w t) ≤ 1
length-front at k w true = omega arith
length-front at k w false = omega arith

ascends-front : (at : ℕ → ℕ) (k : ℕ) (w : ℤ) (t : Bool) → Ascends 0 (front_pair at k w t)
ascends-front at k w true = (omega arith, tt)
ascends-front at k w false = tt

pub others_proper : (n : ℕ) (cost at : ℕ → ℕ) → IsOrder n cost at → 2 ≤ n → (j : ℕ) → j < n
    → (0 < grand_coalition n - singleton (at j)) × (grand_coalition n - singleton (at j) < grand_coalition n)
others_proper n cost at o two j lt = with_other (another_place j lt two)
  where
    another_place : (j : ℕ) → j < n → 2 ≤ n → (h : ℕ) × (h < n) × (h ≢ j)
    another_place zero lt two = (1, omega arith, λ e. omega arith)
    another_place (suc j) lt two = (0, omega arith, λ e. omega arith)

    within : grand_coalition n - singleton (at j) < 2 ^ n
    within = omega (arith, pow-lt (o.below j lt))

    with_other : ((h : ℕ) × (h < n) × (h ≢ j))
        → (0 < grand_coalition n - singleton (at j)) × (grand_coalition n - singleton (at j) < grand_coalition n)
    with_other (h, hn, ne) =
        proper n (grand_coalition n - singleton (at j)) (at h) (at j) within (others-has n cost at o j h lt hn ne)
        (o.below j lt) (others-lacks n cost at o j lt)

pub front_proper : (n : ℕ) (cost at : ℕ → ℕ) → IsOrder n cost at → (k : ℕ) → 0 < k → k < n
    → (0 < front at k) × (front at k < grand_coalition n)
front_proper n cost at o k low high =
    proper n (front at k) (at 0) (at k) (front-lt n cost at o k (omega arith))
    (front-has n cost at o k 0 low (omega arith)) (o.below k high)
    (front-lacks n cost at o k k (omega arith) high)

pub block_form : (n : ℕ) (cost at : ℕ → ℕ) (pay : ℕ → ℤ) (den : ℤ) (i k : ℕ) (levels : List Level) (l : Level)
    → n ≤ 64 → IsOrder n cost at → IsBlock n at pay den i k l → Covers n at i levels → LevelForm n levels l
block_form n cost at pay den i k levels l most o b c =
    let ps = front_pair at k (pos 1) (nat_lt k n) in
    let end = within_end n i k b.some b.within in
    let count : length l.coalitions ≡ (k - i) + length ps =
    ap length b.coalitions ∙ length-with_others n at ps i (k - i) in
    let short = length-front at k (pos 1) (nat_lt k n) in
    record {
      fraction = b.fraction;
      some = omega arith;
      few = omega arith;
      few_earlier = rw b.earlier (omega (arith, length-front at i (negsuc 0) (nat_lt 0 i)));
      proper = rw b.coalitions
          (all-with_others (λ c. (0 < c.0) × (c.0 < grand_coalition n)) n at ps i (k - i)
          (λ j low high. others_proper n cost at o (omega arith) j (omega arith))
          (all-front (λ c. (0 < c.0) × (c.0 < grand_coalition n)) at k (pos 1) (nat_lt k n)
          (λ e. front_proper n cost at o k (omega arith) (from_nat_lt k n e))));
      listed = rw b.earlier
          (all-front (λ c. is_listed levels c.0 ≡ true) at i (negsuc 0) (nat_lt 0 i)
          (λ e. c.fronts (from_nat_lt 0 i e) (omega arith)));
      players = rw b.bounds tt;
      ascend = rw b.coalitions
          (ascends-with_others n cost at o ps i (k - i) end
          (λ h low high. all-front (λ p. has_player p.0 (at h) ≡ true) at k (pos 1) (nat_lt k n)
          (λ e. front-has n cost at o k h (omega arith) b.within))
          (ascends-front at k (pos 1) (nat_lt k n)));
      earlier_ascend = rw b.earlier (ascends-front at i (negsuc 0) (nat_lt 0 i));
      bounds_ascend = rw b.bounds tt;
      small = rw (b.coalitions, b.earlier, b.bounds)
          (all_join (λ p. IsSmall p.1) (with_others n at ps i (k - i) ++ front_pair at i (negsuc 0) (nat_lt 0 i)) []
          (all_join (λ p. IsSmall p.1) (with_others n at ps i (k - i)) (front_pair at i (negsuc 0) (nat_lt 0 i))
          (all-with_others (λ p. IsSmall p.1) n at ps i (k - i) (λ j low high. one_small)
          (all-front (λ p. IsSmall p.1) at k (pos 1) (nat_lt k n) (λ e. one_small)))
          (all-front (λ p. IsSmall p.1) at i (negsuc 0) (nat_lt 0 i) (λ e. minus_small))) tt);
      total_small = rw b.total (total_small (nat_lt k n) (k - i) (omega arith));
    }
  where
    minus_small : IsSmall (negsuc 0)
    minus_small = omega arith

    total_small : (t : Bool) (b : ℕ) → b ≤ 64 → IsSmall (cond t (pos b) (pos b -ℤ pos 1))
    total_small t b h = grind (arith, ints)

-- ---- the conditions of a level

-- the greatest cost is another's where the last block begins two places or more before the end
last_costs : (costs : List ℕ) (at : ℕ → ℕ) (pay : ℕ → ℤ) (x : Allocation) (i k before : ℕ) (l : Level)
    → IsPaid costs at pay x → IsBlock (length costs) at pay x.den i k l → suc (suc before) ≡ length costs
    → k ≡ length costs → cost costs (at (suc before)) ≤ cost costs (at before)
last_costs costs at pay x i k before l p b end all =
    let n = length costs in
    let s = p.scheme in
    let under = s.under before (omega arith) in
    let total : sum_below n pay ≡ x.den *ℤ pos (cost costs (at (suc before))) = s.all (suc before) end in
    let split : sum_below (suc (suc before)) pay ≡ sum_below n pay = ap (λ (m : ℕ). sum_below m pay) end in
    let first = b.same before (omega arith) (omega arith) in
    let second = b.same (suc before) (omega arith) (omega arith) in
    let le : (x.den *ℤ pos (cost costs (at (suc before)))) ≤ℤ (x.den *ℤ pos (cost costs (at before))) =
    omega (arith, linear) in
    let less =
    mul-le_cancelℤ x.den (pos (cost costs (at (suc before)))) (pos (cost costs (at before)))
    (omega (arith, linear)) le in
    omega (arith, ints)

others_excess : (costs : List ℕ) (at : ℕ → ℕ) (pay : ℕ → ℤ) (x : Allocation) (i k j : ℕ) (l : Level)
    → IsPaid costs at pay x → IsBlock (length costs) at pay x.den i k l → i ≤ j → j < k
    → excess (game_of costs) x (grand_coalition (length costs) - singleton (at j)) ≡ neg_ℤ (pay i)
others_excess costs at pay x i k j l p b low high =
    (elim (next_or_last j (length costs) (omega arith)) [
      | inl less ↦ excess-others costs at pay x p j (length costs - 1) (length costs - 1) (omega arith)
          (omega arith) (λ e. omega arith) (omega arith) (omega arith)
      | inr last ↦ excess-others costs at pay x p j (length costs - 2) (suc (length costs - 2)) (omega arith)
          (omega arith) (λ e. omega (arith, two)) (omega (arith, two))
          (last_costs costs at pay x i k (length costs - 2) l p b (omega (arith, two))
          (omega arith))
    ]) ∙ ap neg_ℤ (b.same j low high)
  where
    two : 2 ≤ length costs
    two = omega arith

front_excess : (costs : List ℕ) (at : ℕ → ℕ) (pay : ℕ → ℤ) (x : Allocation) (i k : ℕ) (l : Level)
    → IsPaid costs at pay x → IsBlock (length costs) at pay x.den i k l → k < length costs
    → excess (game_of costs) x (front at k) ≡ neg_ℤ (pay i)
front_excess costs at pay x i zero l p b lt = absurd (omega arith)
front_excess costs at pay x i (suc k) l p b lt =
    let same = b.same k (omega arith) (omega arith) in
    let more = b.until lt in
    let tight = p.scheme.tight k lt (omega (arith, linear)) in
    let e = excess-front costs at pay x p k (omega arith) in
    omega (arith, linear)

pub block_holds : (family : Family) (costs : List ℕ) (at : ℕ → ℕ) (pay : ℕ → ℤ) (x : Allocation) (i k : ℕ)
    (levels : List Level) (l : Level) → IsPaid costs at pay x → IsBlock (length costs) at pay x.den i k l
    → Covers (length costs) at i levels → LevelHolds Players family Plain (game_of costs) x levels l
block_holds family costs at pay x i k levels l p b c = record {
  excesses = rw b.coalitions
      (all-with_others (λ c. HasExcess Plain (game_of costs) x l c.0) (length costs) at
      (front_pair at k (pos 1) (nat_lt k (length costs))) i (k - i)
      (λ j low high. level_excess (excess (game_of costs) x (grand_coalition (length costs) - singleton (at j)))
      (pay i) l.excess_num l.excess_den x.den (others_excess costs at pay x i k j l p b low (omega arith))
      b.excess)
      (all-front (λ c. HasExcess Plain (game_of costs) x l c.0) at k (pos 1) (nat_lt k (length costs))
      (λ e. level_excess (excess (game_of costs) x (front at k)) (pay i) l.excess_num l.excess_den x.den
      (front_excess costs at pay x i k l p b (from_nat_lt k (length costs) e)) b.excess)));
  weights = rw b.coalitions
      (all-with_others (λ c. pos 1 ≤ℤ c.1) (length costs) at (front_pair at k (pos 1) (nat_lt k (length costs))) i
      (k - i) (λ j low high. one_le)
      (all-front (λ c. pos 1 ≤ℤ c.1) at k (pos 1) (nat_lt k (length costs)) (λ e. one_le)));
  bound_weights = rw b.bounds tt;
  balanced = level_balanced (length costs) (cost costs) at pay x.den i k l p.order b;
  tight = rw b.bounds tt;
  outside = outside_at;
}
  where
    placed : (s : ℕ) (t : Bool) (j : ℕ) → j < length costs → is_free (length costs) levels j ≡ true
        → has_player s j ≡ t → (h : ℕ) × (i ≤ h) × (h < length costs) × (has_player s (at h) ≡ t)
    placed s t j lt free has =
        let r = order-place (length costs) (cost costs) at p.order j lt in
        let f : is_free (length costs) levels (at r.0) ≡ true = rw r.2 free in
        (r.0, free_place (length costs) at i r.0 levels c f, r.1, rw r.2 has)

    outside_at : (s : ℕ) → s < 2 ^ length costs → splits (length costs) (is_free (length costs) levels) s ≡ true
        → (excess (game_of costs) x s *ℤ l.excess_den) ≤ℤ (l.excess_num *ℤ x.den)
    outside_at s small out =
        let two = splits-two (length costs) (is_free (length costs) levels) s out in
        let u = placed s true two.0 two.2 two.3 two.4 in
        let v = placed s false two.1 two.5 two.6 two.7 in
        level_most (excess (game_of costs) x s) (pay i) l.excess_num l.excess_den x.den b.fraction
        (excess-outside costs at pay x p s i u.0 v.0 u.1 u.2 u.3 v.1 v.2 v.3) b.excess

-- ---- all levels

levels_form : (n : ℕ) (cost at : ℕ → ℕ) (pay : ℕ → ℤ) (den : ℤ) (i k : ℕ) (front levels : List Level) → n ≤ 64
    → IsOrder n cost at → IsChain n at pay den i levels k → Covers n at i front → LevelsForm n front levels
levels_form n cost at pay den i k front [] most o chain c = tt
levels_form n cost at pay den i k front (l ∷ levels) most o (m, b, chain) c = (
  block_form n cost at pay den i m front l most o b c,
  levels_form n cost at pay den m k (front ++ l ∷ []) levels most o chain
      (Covers-more n at pay den i m front l b c),
)

few_levels : (n : ℕ) (at : ℕ → ℕ) (pay : ℕ → ℤ) (den : ℤ) (i k : ℕ) (levels : List Level) → i + 1 ≤ n
    → IsChain n at pay den i levels k → length levels + i + 1 ≤ n
few_levels n at pay den i k [] le chain = omega arith
few_levels n at pay den i k (l ∷ []) le (m, b, chain) = omega arith
few_levels n at pay den i k (l ∷ (l' ∷ levels)) le (m, b, chain) =
    let ih = few_levels n at pay den m k (l' ∷ levels) (omega arith) chain in
    omega arith

pub HasForm-chain : (n : ℕ) (cost at : ℕ → ℕ) (pay : ℕ → ℤ) (den : ℤ) (k : ℕ) (levels : List Level) → 1 ≤ n → n ≤ 64
    → IsOrder n cost at → IsChain n at pay den 0 levels k → HasForm Players n levels
HasForm-chain n cost at pay den k levels one most o chain = record {
  players = inl refl;
  few = omega (arith, few_levels n at pay den 0 k levels (omega arith) chain);
  each = levels_form n cost at pay den 0 k [] levels most o chain (Covers-none n at);
}

levels_hold : (family : Family) (costs : List ℕ) (at : ℕ → ℕ) (pay : ℕ → ℤ) (x : Allocation) (i k : ℕ)
    (front levels : List Level) → IsPaid costs at pay x → IsChain (length costs) at pay x.den i levels k
    → length costs ≤ k + 1 → Covers (length costs) at i front
    → LevelsHold Players family Plain (game_of costs) x front levels
levels_hold family costs at pay x i k front [] p chain end c = all_fixed
  where
    one_place : (a b : ℕ) → i ≤ a → a < length costs → i ≤ b → b < length costs → a ≡ b
    one_place a b la ha lb hb = omega arith

    all_fixed : (j h : ℕ) → j < length costs → h < length costs → is_free (length costs) front j ≡ true
        → is_free (length costs) front h ≡ true → j ≡ h
    all_fixed j h jn hn fj fh =
        let a = order-place (length costs) (cost costs) at p.order j jn in
        let b = order-place (length costs) (cost costs) at p.order h hn in
        let fa : is_free (length costs) front (at a.0) ≡ true = rw a.2 fj in
        let fb : is_free (length costs) front (at b.0) ≡ true = rw b.2 fh in
        sym a.2
        ∙ ap at
        (one_place a.0 b.0 (free_place (length costs) at i a.0 front c fa) a.1
        (free_place (length costs) at i b.0 front c fb) b.1) ∙ b.2
levels_hold family costs at pay x i k front (l ∷ levels) p (m, b, chain) end c = (
  block_holds family costs at pay x i m front l p b c,
  levels_hold family costs at pay x m k (front ++ l ∷ []) levels p chain end
      (Covers-more (length costs) at pay x.den i m front l b c),
)

-- ---- the family and the core

efficient : (costs : List ℕ) (at : ℕ → ℕ) (pay : ℕ → ℤ) (x : Allocation) → 1 ≤ length costs → IsPaid costs at pay x
    → IsEfficient (game_of costs) x
efficient costs at pay x some p =
    let n = length costs in
    let last = n - 1 in
    let end : suc last ≡ n = omega arith in
    let e = excess-front costs at pay x p last (omega arith) in
    let whole : front at (suc last) ≡ grand_coalition n = ap (front at) end ∙ p.order.full in
    let same : excess (game_of costs) x (grand_coalition n)
    ≡ sum_below (suc last) pay -ℤ x.den *ℤ pos (cost costs (at last)) = rw (← whole) e in
    let total = p.scheme.all last end in
    let sums : sum_below (suc last) pay ≡ sum_below n pay = ap (λ (m : ℕ). sum_below m pay) end in
    omega (arith, linear)

individual : (costs : List ℕ) (at : ℕ → ℕ) (pay : ℕ → ℤ) (x : Allocation) → IsPaid costs at pay x
    → IsIndividuallyRational (game_of costs) x
individual costs at pay x p i lt =
    omega (
      arith,
      linear,
      excess-core costs at pay x p (singleton i),
      amount-at costs at pay x p (singleton i),
      sum_over-singleton (length costs) i (share x) lt,
    )

in_family : (family : Family) (costs : List ℕ) (at : ℕ → ℕ) (pay : ℕ → ℤ) (x : Allocation) → 1 ≤ length costs
    → IsPaid costs at pay x → InFamily family (game_of costs) x
in_family Imputations costs at pay x some p =
    ((p.players, p.scheme.positive), efficient costs at pay x some p, individual costs at pay x p)
in_family Preimputations costs at pay x some p =
    ((p.players, p.scheme.positive), efficient costs at pay x some p)

pub InCore-scheme : (costs : List ℕ) (at : ℕ → ℕ) (pay : ℕ → ℤ) (x : Allocation) → 1 ≤ length costs
    → IsPaid costs at pay x → InCore (game_of costs) x
InCore-scheme costs at pay x some p = (
  (p.players, p.scheme.positive),
  efficient costs at pay x some p,
  λ s lt blocks. omega (arith, linear, excess-core costs at pay x p s),
)

pub Certifies-chain : (family : Family) (costs : List ℕ) (at : ℕ → ℕ) (pay : ℕ → ℤ) (x : Allocation) (k : ℕ)
    (levels : List Level) → 1 ≤ length costs → IsPaid costs at pay x
    → IsChain (length costs) at pay x.den 0 levels k → length costs ≤ k + 1
    → Certifies Players family Plain (game_of costs) x levels
Certifies-chain family costs at pay x k levels some p chain end = (
  in_family family costs at pay x some p,
  levels_hold family costs at pay x 0 k [] levels p chain end (Covers-none (length costs) at),
)
