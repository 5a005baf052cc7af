-- The keys of the pairs of a level: distinct columns give distinct coalitions, and the players ascend.
use Rattle.std.proofs.Common.{◌≡◌, ◌≢◌, ℕ, zero, suc, ◌+◌, ◌-◌, ◌<◌, ◌≤◌, false}
use Rattle.std.proofs.Common.{nat_eq, nat_le, List, [], ◌∷◌, map, ℤ, inl, inr, arith}
use Rattle.std.proofs.lemmas.Bool.Decides.{nat_tests}
use Rattle.std.specs.List.{AllByRecursion, IsDistinct}
use Rattle.definitions.specs.Certificates.{Ascends}
use Rattle.nested_programs.specs.Numbers.{outer_pairs, net, kept, earlier_pairs, bound_pairs}
use Rattle.nested_programs.proofs.PlacedOrder.{kept_apart, kept_ascends}
use Rattle.nested_programs.proofs.LevelPairs.{all_outer, all_kept, all_bound}
use Rattle.definitions.proofs.Alls.{all_join, all_weaken}
use Rattle.definitions.proofs.Cases.{true_or_false, from_not_nat_eq}
use Rattle.kohlberg.proofs.Placed.{Apart}

-- ---- the coalitions outside

other_mask : (first a b : ℕ) → first ≤ a → first ≤ b → nat_eq a b ≡ false → b - first ≢ a - first
other_mask first a b ha hb ne e = let same : a ≡ b = omega arith in grind (arith, nat_tests)

outer_new : (first id : ℕ) (ws : List (ℕ × ℤ)) → first ≤ id
    → AllByRecursion (λ y. nat_eq id y ≡ false) (map (λ (w : ℕ × ℤ). w.0) ws)
    → AllByRecursion (λ p. p.0 ≢ id - first) (outer_pairs first ws)
outer_new first id [] le h = tt
outer_new first id (w ∷ ws) le h = elim (true_or_false (nat_le first w.0)) [
  | inl t ↦
      let past : first ≤ w.0 = grind (arith, nat_tests) in
      rw t (other_mask first id w.0 le past h.0, outer_new first id ws le h.1)
  | inr t ↦ rw t (outer_new first id ws le h.1)
]

pub outer_apart : (first : ℕ) (ws : List (ℕ × ℤ)) → IsDistinct nat_eq (map (λ (w : ℕ × ℤ). w.0) ws)
    → Apart (outer_pairs first ws)
unfolding IsDistinct
outer_apart first [] h = tt
outer_apart first (w ∷ ws) h = elim (true_or_false (nat_le first w.0)) [
  | inl t ↦
      let past : first ≤ w.0 = grind (arith, nat_tests) in
      rw t (outer_new first w.0 ws past h.0, outer_apart first ws h.1)
  | inr t ↦ rw t (outer_apart first ws h.1)
]

pub outer_all : (P : ℕ × ℤ → Type 0) (first : ℕ) (ws : List (ℕ × ℤ)) → AllByRecursion (λ w. (s : ℕ) → P (s, w.1)) ws
    → AllByRecursion P (outer_pairs first ws)
outer_all P first ws h =
    all_outer P first ws (all_weaken (λ w. (s : ℕ) → P (s, w.1)) (λ w. first ≤ w.0 → P (w.0 - first, w.1)) ws
    (λ w each le. each (w.0 - first))
    h)

-- ---- the coalitions of the levels in front

pub earlier_all : (P : ℕ × ℤ → Type 0) (ws : List (ℕ × ℤ)) (id : ℕ) (cs : List (ℕ × ℕ))
    → AllByRecursion (λ c. (a b : ℕ) → P (c.0, net ws a b)) cs → AllByRecursion P (earlier_pairs ws id cs)
earlier_all P ws id [] h = tt
earlier_all P ws id (c ∷ cs) h =
    all_join P (kept c.0 (net ws id (id + 1))) (earlier_pairs ws (id + 2) cs)
    (all_kept P c.0 (net ws id (id + 1)) (λ some. h.0 id (id + 1))) (earlier_all P ws (id + 2) cs h.1)

pub all_rows : (P : ℕ → Type 0) (k : ℕ) (cs : List (ℕ × ℤ)) → AllByRecursion (λ c. P c.0) cs
    → AllByRecursion (λ (c : ℕ × ℕ). P c.0) (map (λ (c : ℕ × ℤ). (c.0, k)) cs)
all_rows P k [] h = tt
all_rows P k (c ∷ cs) h = (h.0, all_rows P k cs h.1)

all_keys : (P : ℕ → Type 0) (cs : List (ℕ × ℕ)) → AllByRecursion P (map (λ (c : ℕ × ℕ). c.0) cs)
    → AllByRecursion (λ c. P c.0) cs
all_keys P [] h = tt
all_keys P (c ∷ cs) h = (h.0, all_keys P cs h.1)

earlier_new : (ws : List (ℕ × ℤ)) (key id : ℕ) (cs : List (ℕ × ℕ))
    → AllByRecursion (λ y. nat_eq key y ≡ false) (map (λ (c : ℕ × ℕ). c.0) cs)
    → AllByRecursion (λ p. p.0 ≢ key) (earlier_pairs ws id cs)
earlier_new ws key id cs h =
    earlier_all (λ p. p.0 ≢ key) ws id cs
    (all_weaken (λ c. nat_eq key c.0 ≡ false) (λ c. (a b : ℕ) → c.0 ≢ key) cs (λ c ne a b. from_not_nat_eq key c.0 ne)
    (all_keys (λ y. nat_eq key y ≡ false) cs h))

pub earlier_apart : (ws : List (ℕ × ℤ)) (id : ℕ) (cs : List (ℕ × ℕ))
    → IsDistinct nat_eq (map (λ (c : ℕ × ℕ). c.0) cs) → Apart (earlier_pairs ws id cs)
unfolding IsDistinct
earlier_apart ws id [] h = tt
earlier_apart ws id (c ∷ cs) h =
    kept_apart c.0 (net ws id (id + 1)) (earlier_pairs ws (id + 2) cs) (earlier_new ws c.0 (id + 2) cs h.0)
    (earlier_apart ws (id + 2) cs h.1)

-- ---- the players at their bound

pub bound_all : (P : ℕ × ℤ → Type 0) (ws : List (ℕ × ℤ)) (first n i : ℕ) → ((k a b : ℕ) → k < i → P (k, net ws a b))
    → AllByRecursion P (bound_pairs ws first n i)
bound_all P ws first n i h = all_bound P ws first n i (λ k lt some. h k (first + k) (first + k + n) lt)

pub bound_ascends : (ws : List (ℕ × ℤ)) (first n i : ℕ) → Ascends 0 (bound_pairs ws first n i)
bound_ascends ws first n zero = tt
bound_ascends ws first n (suc i) =
    kept_ascends i (net ws (first + i) (first + i + n)) (bound_pairs ws first n i) (bound_ascends ws first n i)
    (bound_all (λ p. p.0 < i) ws first n i (λ k a b lt. lt))
