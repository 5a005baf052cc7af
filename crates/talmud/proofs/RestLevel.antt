-- The level of the players who aren't half players has its form, and holds.
use Rattle.std.proofs.Common.{◌≡◌, ◌≢◌, ℕ, ◌+◌, ◌-◌, ◌<◌, ◌≤◌, Bool, true, false}
use Rattle.std.proofs.Common.{cond, List, [], ◌++◌, length, ℤ}
use Rattle.std.proofs.Common.{pos, ◌+ℤ◌, ◌-ℤ◌, neg_ℤ, ◌≤ℤ◌, refl, sym, ap, ◌∙◌, inl}
use Rattle.std.proofs.Common.{inr, arith}
use Rattle.std.proofs.lemmas.Int.{ints}
use Rattle.definitions.specs.Coalitions.{grand_coalition, weight_at}
use Rattle.definitions.specs.Games.{Allocation, excess}
use Rattle.definitions.specs.Certificates.{Level, is_listed, number_at, IsSmall, LevelForm, LevelHolds, HasExcess}
use Rattle.definitions.specs.declared.Family.{Family}
use Rattle.definitions.specs.declared.Mode.TheVariants.{Players}
use Rattle.orders.specs.Orders.{IsOrder}
use Rattle.orders.proofs.Fronts.{order-place}
use Rattle.kohlberg.proofs.Conditions.{level_excess, level_most}
use Rattle.talmud.specs.Rule.{cut}
use Rattle.talmud.specs.Levels.{single, others, with_keys, key_of, IsRestLevel}
use Rattle.talmud.proofs.Worths.{game_of, excess-singleton, excess-others}
use Rattle.talmud.proofs.ByPlace.{IsRule}
use Rattle.talmud.proofs.Excesses.{Divides-rule, rest_least, enough_gain}
use Rattle.talmud.proofs.Keys.{single-apart, others-apart, all-keys, length-keys, ascends-keys}
use Rattle.talmud.proofs.Keys.{weight-two, weight-single_out, weight-single_in}
use Rattle.talmud.proofs.Covering.{Covers, outside_most, fixes}
use Rattle.talmud.proofs.HalfLevels.{others_proper, single_proper}
use Rattle.definitions.specs.declared.Measure.TheVariants.{Plain}
use Rattle.definitions.proofs.Alls.{all_join}
use Rattle.definitions.proofs.Cases.{below_or_above}
use Rattle.definitions.proofs.UnitWeights.{one_small, one_le}

key_proper : (n : ℕ) (cost at : ℕ → ℕ) → IsOrder n cost at → 2 ≤ n → (gain : Bool) (j : ℕ) → j < n
    → (0 < key_of n at gain j) × (key_of n at gain j < grand_coalition n)
key_proper n cost at o two true j lt = single_proper n cost at o two j lt
key_proper n cost at o two false j lt = others_proper n cost at o two j lt

key_apart : (n : ℕ) (cost at : ℕ → ℕ) → IsOrder n cost at → (gain : Bool) (j k : ℕ) → j < k → k < n
    → key_of n at gain j ≢ key_of n at gain k
key_apart n cost at o true j k lt kn = single-apart n cost at o j k lt kn
key_apart n cost at o false j k lt kn = others-apart n cost at o j k lt kn

key_listed : (n : ℕ) (at : ℕ → ℕ) (i : ℕ) (levels : List Level) → Covers n at i levels → (gain : Bool) (j : ℕ)
    → j < i → is_listed levels (key_of n at gain j) ≡ true
key_listed n at i levels c true j lt = c.singles j lt
key_listed n at i levels c false j lt = c.rest j lt

pub rest_form : (n : ℕ) (cost at : ℕ → ℕ) (m : ℕ) (gain : Bool) (t den : ℤ) (levels : List Level) (l : Level)
    → n ≤ 64 → IsOrder n cost at → IsRestLevel n at m gain t den l → Covers n at m levels → LevelForm n levels l
rest_form n cost at m gain t den levels l most o b c =
    let count = ap length b.coalitions ∙ length-keys (key_of n at gain) m (n - m) in
    let early = ap length b.earlier ∙ length-keys (key_of n at gain) 0 m in
    record {
      fraction = b.fraction;
      some = omega arith;
      few = omega arith;
      few_earlier = omega arith;
      proper = rw b.coalitions
          (all-keys (λ c. (0 < c.0) × (c.0 < grand_coalition n)) (key_of n at gain) m (n - m)
          (λ j low high. key_proper n cost at o (omega arith) gain j (omega arith)));
      listed = rw b.earlier
          (all-keys (λ c. is_listed levels c.0 ≡ true) (key_of n at gain) 0 m
          (λ j low high. key_listed n at m levels c gain j (omega arith)));
      players = rw b.bounds tt;
      ascend = rw b.coalitions
          (ascends-keys (key_of n at gain) m (n - m)
          (λ j k low lt high. key_apart n cost at o gain j k lt (omega arith)));
      earlier_ascend = rw b.earlier
          (ascends-keys (key_of n at gain) 0 m (λ j k low lt high. key_apart n cost at o gain j k lt (omega arith)));
      bounds_ascend = rw b.bounds tt;
      small = rw (b.coalitions, b.earlier, b.bounds)
          (all_join (λ p. IsSmall p.1) (with_keys (key_of n at gain) m (n - m) ++ with_keys (key_of n at gain) 0 m) []
          (all_join (λ p. IsSmall p.1) (with_keys (key_of n at gain) m (n - m)) (with_keys (key_of n at gain) 0 m)
          (all-keys (λ p. IsSmall p.1) (key_of n at gain) m (n - m) (λ j low high. one_small))
          (all-keys (λ p. IsSmall p.1) (key_of n at gain) 0 m (λ j low high. one_small))) tt);
      total_small = rw b.total (grind (arith, ints));
    }

-- each place is once among those from m on and those in front of it
singles_once : (n : ℕ) (cost at : ℕ → ℕ) → IsOrder n cost at → (m h : ℕ) → m ≤ n → h < n
    → weight_at (with_keys (single at) m (n - m)) (at h) +ℤ weight_at (with_keys (single at) 0 m) (at h) ≡ pos 1
singles_once n cost at o m h mn hn = elim (below_or_above h m) [
  | inl less ↦ omega (
    arith,
    ints,
    weight-single_out n cost at o m (n - m) h (omega arith) hn (inl less),
    weight-single_in n cost at o 0 m h (omega arith) (omega arith) (omega arith),
  )
  | inr low ↦ omega (
    arith,
    ints,
    weight-single_in n cost at o m (n - m) h (omega arith) low (omega arith),
    weight-single_out n cost at o 0 m h (omega arith) hn (inr (omega arith)),
  )
]

keys_sum : (n : ℕ) (cost at : ℕ → ℕ) → IsOrder n cost at → (m h : ℕ) → m ≤ n → h < n → (gain : Bool)
    → weight_at (with_keys (key_of n at gain) m (n - m)) (at h)
    +ℤ weight_at (with_keys (key_of n at gain) 0 m) (at h) +ℤ pos 0 ≡ cond gain (pos 1) (pos n -ℤ pos 1)
keys_sum n cost at o m h mn hn true = omega (arith, ints, singles_once n cost at o m h mn hn)
keys_sum n cost at o m h mn hn false =
    let once = singles_once n cost at o m h mn hn in
    let a = weight-two n cost at o m (n - m) (at h) (omega arith) (o.below h hn) in
    let b = weight-two n cost at o 0 m (at h) (omega arith) (o.below h hn) in
    joined (weight_at (with_keys (single at) m (n - m)) (at h)) (weight_at (with_keys (single at) 0 m) (at h))
    (weight_at (with_keys (others n at) m (n - m)) (at h)) (weight_at (with_keys (others n at) 0 m) (at h)) once a
    b
  where
    joined : (u v y z : ℤ) → u +ℤ v ≡ pos 1 → u +ℤ y ≡ pos (n - m) → v +ℤ z ≡ pos m
        → y +ℤ z +ℤ pos 0 ≡ pos n -ℤ pos 1
    joined u v y z e f g = omega (arith, ints)

pub rest_holds : (family : Family) (estate : ℕ) (claims : List ℕ) (at : ℕ → ℕ) (m : ℕ) (gain : Bool) (t : ℤ)
    (x : Allocation) (levels : List Level) (l : Level) → IsRule estate claims at m gain t x
    → IsRestLevel (length claims) at m gain t x.den l → Covers (length claims) at m levels
    → LevelHolds Players family Plain (game_of estate claims) x levels l
rest_holds family estate claims at m gain t x levels l r b c = record {
  excesses = rw b.coalitions
      (all-keys (λ c. HasExcess Plain (game_of estate claims) x l c.0) (key_of (length claims) at gain) m
      (length claims - m)
      (λ j low high. level_excess _ t l.excess_num l.excess_den x.den (key_excess gain r j low (inside j high))
      (sym b.excess)));
  weights = rw b.coalitions
      (all-keys (λ c. pos 1 ≤ℤ c.1) (key_of (length claims) at gain) m (length claims - m) (λ j low high. one_le));
  bound_weights = rw b.bounds tt;
  balanced = balanced_at;
  tight = rw b.bounds tt;
  outside = λ s small out. level_most (excess (game_of estate claims) x s) t l.excess_num l.excess_den x.den
      b.fraction
      (outside_most estate claims at m gain t x m t levels r (fixes (length claims) at m levels c)
      (λ p le lt. rest_least estate claims at m gain t x r p le lt) s small out) (sym b.excess);
}
  where
    inside : (j : ℕ) → j < m + (length claims - m) → j < length claims
    inside j h = omega arith

    key_excess : (g : Bool) → IsRule estate claims at m g t x → (j : ℕ) → m ≤ j → j < length claims
        → excess (game_of estate claims) x (key_of (length claims) at g j) ≡ neg_ℤ t
    key_excess true q j low high =
        excess-singleton estate claims x (at j) (Divides-rule estate claims at m true t x q) (q.order.below j high)
        (enough_gain estate claims (at j) (q.little refl)) ∙ ap neg_ℤ (q.rest j low high)
    key_excess false q j low high =
        excess-others estate claims x (at j) (Divides-rule estate claims at m false t x q) (q.order.below j high)
        ∙ ap neg_ℤ (q.rest j low high)

    balanced_at : (j : ℕ) → j < length claims
        → weight_at l.coalitions j +ℤ weight_at l.earlier j +ℤ number_at l.bounds j ≡ l.total
    balanced_at j lt =
        let p = order-place (length claims) (cut estate claims) at r.order j lt in
        rw (b.coalitions, b.earlier, b.bounds, b.total, ← p.2)
        (keys_sum (length claims) (cut estate claims) at r.order m p.0 r.within p.1 gain)
