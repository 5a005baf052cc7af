-- The list of the columns of a basis that have a positive weight.
use Rattle.std.proofs.Common.{◌≡◌, ◌≢◌, inl, inr, ℕ, zero, suc, ◌+◌, ◌<◌, ◌≤◌}
use Rattle.std.proofs.Common.{false, List, [], ◌∷◌, ◌++◌, length, length-append, map, nat_eq, Option}
use Rattle.std.proofs.Common.{Some, None, arith, refl, ap, ◌∙◌, ℤ, pos, negsuc, ◌+ℤ◌}
use Rattle.std.proofs.Common.{◌*ℤ◌, ◌≤ℤ◌, unsigned_abs}
use Prim.Native.Nat.{◌∣◌}
use Rattle.std.specs.List.{AllByRecursion, IsDistinct}
use Rattle.std.proofs.lemmas.Int.{ints}
use Rattle.std.proofs.lemmas.Nat.Gcd.{dvd-zero}
use Rattle.definitions.proofs.Ring.{unit_laws, linear}
use Rattle.definitions.specs.Sums.{weighted_sum}
use Rattle.definitions.proofs.Cases.{last_or_less, nat_eq-other}
use Rattle.determinants.specs.Basis.{dot}
use Rattle.simplex.specs.Reduced.{with_weight, listed}
use Rattle.simplex.specs.Tableau.{id_at}

-- ---- what holds of each listed weight
all_append : (q : ℕ × ℤ → Type 0) (ws : List (ℕ × ℤ)) (v : ℕ × ℤ) → q v → AllByRecursion q ws
    → AllByRecursion q (ws ++ v ∷ [])
all_append q [] v h k = (h, tt)
all_append q (w ∷ ws) v h k = (k.0, all_append q ws v h k.1)

with_all : (q : ℕ × ℤ → Type 0) (o : Option ℕ) (w : ℤ) (ws : List (ℕ × ℤ))
    → ((id u : ℕ) → o ≡ Some id → w ≡ pos (suc u) → q (id, pos (suc u))) → AllByRecursion q ws
    → AllByRecursion q (with_weight o w ws)
with_all q None w ws h k = k
with_all q (Some id) (pos zero) ws h k = k
with_all q (Some id) (pos (suc u)) ws h k = all_append q ws (id, pos (suc u)) (h id u refl refl) k
with_all q (Some id) (negsuc u) ws h k = k

pub listed_all : (q : ℕ × ℤ → Type 0) (ids : List (Option ℕ)) (w : ℕ → ℤ) (k : ℕ)
    → ((j id u : ℕ) → j < k → id_at ids j ≡ Some id → w j ≡ pos (suc u) → q (id, pos (suc u)))
    → AllByRecursion q (listed ids w k)
listed_all q ids w zero h = tt
listed_all q ids w (suc k) h =
    with_all q (id_at ids k) (w k) (listed ids w k) (λ id u e f. h k id u (omega arith) e f)
    (listed_all q ids w k (λ j id u lt e f. h j id u (omega arith) e f))

-- ---- how many there are
with_count : (o : Option ℕ) (w : ℤ) (ws : List (ℕ × ℤ)) → length (with_weight o w ws) ≤ length ws + 1
with_count None w ws = omega arith
with_count (Some id) (pos zero) ws = omega arith
with_count (Some id) (pos (suc w)) ws = omega (arith, length-append ws ((id, pos (suc w)) ∷ []))
with_count (Some id) (negsuc w) ws = omega arith

pub listed_count : (ids : List (Option ℕ)) (w : ℕ → ℤ) (k : ℕ) → length (listed ids w k) ≤ k
listed_count ids w zero = omega arith
listed_count ids w (suc k) =
    let a = with_count (id_at ids k) (w k) (listed ids w k) in let b = listed_count ids w k in omega arith

-- ---- their sum
-- the value of f at a column, and 0 at an artificial variable
abbrev pub on_id : (ℕ → ℤ) → Option ℕ → ℤ
on_id f None = pos 0
on_id f (Some id) = f id

weigh_append : (f : ℕ → ℤ) (ws : List (ℕ × ℤ)) (id : ℕ) (w : ℤ)
    → weighted_sum f (ws ++ (id, w) ∷ []) ≡ weighted_sum f ws +ℤ w *ℤ f id
weigh_append f [] id w = omega (arith, linear)
weigh_append f (v ∷ ws) id w =
    cc (weigh_append f ws id w, last_into_sum (v.1 *ℤ f v.0) (weighted_sum f ws) (w *ℤ f id))
  where
    last_into_sum : (a b c : ℤ) → a +ℤ (b +ℤ c) ≡ (a +ℤ b) +ℤ c
    last_into_sum a b c = omega (arith, linear)

plus_none_times : (a b : ℤ) → a ≡ a +ℤ pos 0 *ℤ b
plus_none_times a b = simp unit_laws

plus_times_none : (a w : ℤ) → a ≡ a +ℤ w *ℤ pos 0
plus_times_none a w = simp unit_laws

with_sum : (f : ℕ → ℤ) (o : Option ℕ) (w : ℤ) (ws : List (ℕ × ℤ)) → pos 0 ≤ℤ w
    → weighted_sum f (with_weight o w ws) ≡ weighted_sum f ws +ℤ w *ℤ on_id f o
with_sum f None w ws h = plus_times_none (weighted_sum f ws) w
with_sum f (Some id) (pos zero) ws h = plus_none_times (weighted_sum f ws) (f id)
with_sum f (Some id) (pos (suc w)) ws h = weigh_append f ws id (pos (suc w))
with_sum f (Some id) (negsuc w) ws h = absurd (omega (arith, ints))

pub listed_sum : (f : ℕ → ℤ) (ids : List (Option ℕ)) (w : ℕ → ℤ) (k : ℕ) → ((j : ℕ) → j < k → pos 0 ≤ℤ w j)
    → weighted_sum f (listed ids w k) ≡ dot k w (λ j. on_id f (id_at ids j))
listed_sum f ids w zero h = refl
listed_sum f ids w (suc k) h =
    let one = with_sum f (id_at ids k) (w k) (listed ids w k) (h k (omega arith)) in
    cc (listed_sum f ids w k (λ j lt. h j (omega arith)))

-- ---- their columns are distinct
abbrev numbers : List (ℕ × ℤ) → List ℕ
numbers ws = map (λ (w : ℕ × ℤ). w.0) ws

-- the number isn't that of a weight
abbrev IsNew : ℕ → List (ℕ × ℤ) → Type 0
IsNew id ws = AllByRecursion (λ i. nat_eq id i ≡ false) (numbers ws)

pub all_new : (id : ℕ) (ws : List (ℕ × ℤ)) → AllByRecursion (λ w. nat_eq id w.0 ≡ false) ws
    → AllByRecursion (λ i. nat_eq id i ≡ false) (map (λ (w : ℕ × ℤ). w.0) ws)
all_new id [] h = tt
all_new id (w ∷ ws) h = (h.0, all_new id ws h.1)

new_append : (id : ℕ) (ws : List (ℕ × ℤ)) (i : ℕ) (w : ℤ) → nat_eq id i ≡ false → IsNew id ws
    → IsNew id (ws ++ (i, w) ∷ [])
new_append id [] i w ne h = (ne, tt)
new_append id (v ∷ ws) i w ne h = (h.0, new_append id ws i w ne h.1)

distinct_append : (ws : List (ℕ × ℤ)) (id : ℕ) (w : ℤ) → AllByRecursion (λ v. nat_eq v.0 id ≡ false) ws
    → IsDistinct nat_eq (numbers ws) → IsDistinct nat_eq (numbers (ws ++ (id, w) ∷ []))
unfolding IsDistinct
distinct_append [] id w n h = (tt, tt)
distinct_append (v ∷ ws) id w n h = (new_append v.0 ws id w n.0 h.0, distinct_append ws id w n.1 h.1)

with_distinct : (o : Option ℕ) (w : ℤ) (ws : List (ℕ × ℤ))
    → ((id : ℕ) → o ≡ Some id → AllByRecursion (λ v. nat_eq v.0 id ≡ false) ws) → IsDistinct nat_eq (numbers ws)
    → IsDistinct nat_eq (numbers (with_weight o w ws))
with_distinct None w ws n h = h
with_distinct (Some id) (pos zero) ws n h = h
with_distinct (Some id) (pos (suc w)) ws n h = distinct_append ws id (pos (suc w)) (n id refl) h
with_distinct (Some id) (negsuc w) ws n h = h

pub listed_distinct : (ids : List (Option ℕ)) (w : ℕ → ℤ) (k : ℕ)
    → ((i j id : ℕ) → i < k → j < k → i ≢ j → id_at ids i ≡ Some id → id_at ids j ≡ Some id → ⊥)
    → IsDistinct nat_eq (map (λ (w : ℕ × ℤ). w.0) (listed ids w k))
unfolding IsDistinct
listed_distinct ids w zero h = tt
listed_distinct ids w (suc k) h =
    with_distinct (id_at ids k) (w k) (listed ids w k) (λ id e. listed_all (λ v. nat_eq v.0 id ≡ false) ids w k
    (λ j i u lt f g. nat_eq-other i id
    (λ same. h j k id (omega arith) (omega arith) (omega arith) (f ∙ ap Some same) e)))
    (listed_distinct ids w k (λ i j id il jl ne e f. h i j id (omega arith) (omega arith) ne e f))

-- ---- what divides all of them divides each weight
divisible_front : (g : ℕ) (ws : List (ℕ × ℤ)) (v : ℕ × ℤ)
    → AllByRecursion (λ w. g ∣ unsigned_abs w.1) (ws ++ v ∷ []) → AllByRecursion (λ w. g ∣ unsigned_abs w.1) ws
divisible_front g [] v h = tt
divisible_front g (w ∷ ws) v h = (h.0, divisible_front g ws v h.1)

divisible_last : (g : ℕ) (ws : List (ℕ × ℤ)) (v : ℕ × ℤ) → AllByRecursion (λ w. g ∣ unsigned_abs w.1) (ws ++ v ∷ [])
    → g ∣ unsigned_abs v.1
divisible_last g [] v h = h.0
divisible_last g (w ∷ ws) v h = divisible_last g ws v h.1

divisible_with : (g : ℕ) (o : Option ℕ) (w : ℤ) (ws : List (ℕ × ℤ))
    → AllByRecursion (λ w. g ∣ unsigned_abs w.1) (with_weight o w ws)
    → AllByRecursion (λ w. g ∣ unsigned_abs w.1) ws
divisible_with g None w ws h = h
divisible_with g (Some id) (pos zero) ws h = h
divisible_with g (Some id) (pos (suc w)) ws h = divisible_front g ws (id, pos (suc w)) h
divisible_with g (Some id) (negsuc w) ws h = h

divisible_at : (g : ℕ) (o : Option ℕ) (w : ℤ) (ws : List (ℕ × ℤ)) → pos 0 ≤ℤ w → (o ≡ None → w ≡ pos 0)
    → AllByRecursion (λ w. g ∣ unsigned_abs w.1) (with_weight o w ws) → g ∣ unsigned_abs w
divisible_at g None w ws p z h = rw (z refl) (dvd-zero g)
divisible_at g (Some id) (pos zero) ws p z h = dvd-zero g
divisible_at g (Some id) (pos (suc w)) ws p z h = divisible_last g ws (id, pos (suc w)) h
divisible_at g (Some id) (negsuc w) ws p z h = absurd (omega (arith, ints))

pub listed_divisible : (g : ℕ) (ids : List (Option ℕ)) (w : ℕ → ℤ) (n : ℕ) → ((k : ℕ) → k < n → pos 0 ≤ℤ w k)
    → ((k : ℕ) → k < n → id_at ids k ≡ None → w k ≡ pos 0)
    → AllByRecursion (λ w. g ∣ unsigned_abs w.1) (listed ids w n) → (k : ℕ) → k < n → g ∣ unsigned_abs (w k)
listed_divisible g ids w zero p z h k lt = absurd (omega arith)
listed_divisible g ids w (suc n) p z h k lt = elim (last_or_less k n lt) [
  | inl e ↦ rw e
      (divisible_at g (id_at ids n) (w n) (listed ids w n) (p n (omega arith)) (z n (omega arith)) h)
  | inr l ↦ listed_divisible g ids w n (λ k q. p k (omega arith)) (λ k q. z k (omega arith))
      (divisible_with g (id_at ids n) (w n) (listed ids w n) h) k l
]
