-- The Shapley total of an airport game (Littlechild and Owen 1973): each unit of cost is shared equally by the
-- players whose cost is above it.
use Rattle.std.proofs.Common.{◌≡◌, ◌⊎◌, ℕ, zero, suc, ◌+◌, ◌-◌, ◌*◌, ◌/◌, ◌^◌}
use Rattle.std.proofs.Common.{◌<◌, ◌≤◌, Bool, true, false, cond}
use Rattle.std.proofs.Common.{not, ◌&&◌, List, length, ℤ, pos, ◌+ℤ◌, ◌-ℤ◌, ◌*ℤ◌, neg_ℤ}
use Rattle.std.proofs.Common.{refl, sym, ap, ◌∙◌, inl}
use Rattle.std.proofs.Common.{inr, arith, nat_lt, nat_le, slice_index, if◌then◌else◌}
use Rattle.std.specs.Prelude.{max}
use Rattle.std.proofs.lemmas.Bool.{false≢true}
use Rattle.std.proofs.lemmas.Bool.Decides.{nat_tests}
use Rattle.std.proofs.lemmas.Int.{ints}
use Rattle.std.proofs.Math.Nat.{mul_comm, le_refl}
use lib.IntN.{*ℤ_comm}
use Rattle.definitions.proofs.Cases.{less_or_last, nat_eq-same, nat_eq-other, nat_lt-less}
use Rattle.definitions.proofs.Cases.{not_true, and_left, and_true, and_false}
use Rattle.definitions.proofs.Ring.{linear, mul-addℤ, mul-zeroℤ, mul-oneℤ, mul_assocℤ, mul_left_commℤ, mul-negℤ}
use Rattle.definitions.proofs.Members.{sum_below-same, sum_below-zero, sum_below-add, sum_below-times}
use Rattle.definitions.proofs.Halves.{has_player-last, has_player-upper, has_player-lower, has_player-plus}
use Rattle.definitions.proofs.Halves.{size_below, size_below-zero, size_below-without, size_below-with}
use Rattle.definitions.proofs.Halves.{sum_below-halves}
use Rattle.definitions.specs.Sums.{sum_below}
use Rattle.definitions.specs.Coalitions.{has_player}
use Rattle.definitions.specs.Games.{Game}
use Rattle.definitions.specs.Classes.{greatest_cost, airport_worth}
use Rattle.definitions.specs.Shapley.{shapley_total, factorial}
use Rattle.shapley.specs.Subsets.{orders_with, subset_term}
use Rattle.shapley.specs.Layers.{above, count}
use Rattle.shapley.proofs.Orders.{lacks, size-lacks, lacks-some, lacks-without, lacks-with, orders_are_subsets}

-- ---- the greatest cost, where a player joins

greatest_cost-apart : (n i : ℕ) (cost : ℕ → ℕ) (s : ℕ) → n ≤ i → has_player s i ≡ false
    → greatest_cost n cost (s + 2 ^ i) ≡ greatest_cost n cost s
greatest_cost-apart zero i cost s h e = refl
greatest_cost-apart (suc n) i cost s h e =
    rw (
      has_player-plus s i n e,
      nat_eq-other n i (λ same. omega arith),
      greatest_cost-apart n i cost s (omega arith) e,
    ) refl

pub greatest_cost-plus : (n i : ℕ) (cost : ℕ → ℕ) (s : ℕ) → i < n → has_player s i ≡ false
    → greatest_cost n cost (s + 2 ^ i) ≡ max (greatest_cost n cost s) (cost i)
greatest_cost-plus zero i cost s h e = absurd (omega arith)
greatest_cost-plus (suc n) i cost s h e = elim (less_or_last i n h) [
  | inl less ↦
      rw (has_player-plus s i n e, nat_eq-other n i (λ same. omega arith), greatest_cost-plus n i cost s less e)
      (swapped (greatest_cost n cost s) (cost i) (cond (has_player s n) (cost n) 0))
  | inr same ↦ rw same (itself n (ap (has_player s) (sym same) ∙ e))
]
  where
    swapped : (a b c : ℕ) → max (max a b) c ≡ max (max a c) b
    swapped a b c = omega arith

    with_none : (a b : ℕ) → max a b ≡ max (max a 0) b
    with_none a b = omega arith

    itself : (n : ℕ) → has_player s n ≡ false
        → greatest_cost (suc n) cost (s + 2 ^ n) ≡ max (greatest_cost (suc n) cost s) (cost n)
    itself n out =
        rw (has_player-plus s n n out, nat_eq-same n, greatest_cost-apart n n cost s (le_refl n) out, out)
        (with_none (greatest_cost n cost s) (cost n))

-- ---- how often no member of a set stands in front

-- no player below n is both a member of s and in the set
abbrev clear : (ℕ → Bool) → ℕ → ℕ → Bool
clear m zero s = true
clear m (suc n) s = clear m n s && not (has_player s n && m n)

abbrev weight : ℕ → ℕ → ℤ
weight j r = pos (factorial j * factorial r)

clear-upper : (m : ℕ → Bool) (n s k : ℕ) → k ≤ n → clear m k (2 ^ n + s) ≡ clear m k s
clear-upper m n s zero h = refl
clear-upper m n s (suc k) h =
    let ih = clear-upper m n s k (omega arith) in
    let here = has_player-lower n s k (omega arith) in
    rw (here, ih) refl

clear-without : (m : ℕ → Bool) (n s : ℕ) → s < 2 ^ n → clear m (suc n) s ≡ clear m n s
clear-without m n s h = rw (has_player-last n s h) (and_true (clear m n s))

clear-with : (m : ℕ → Bool) (n s : ℕ) → s < 2 ^ n → clear m (suc n) (2 ^ n + s) ≡ (clear m n s && not (m n))
clear-with m n s h = rw (has_player-upper n s h, clear-upper m n s n (le_refl n)) refl

-- the orders, where d more stand behind
abbrev open_term : (ℕ → Bool) → ℕ → ℕ → ℕ → ℤ
open_term m n d s = if clear m n s then weight (size_below n s) (lacks n s + d) else pos 0

weight-at : (j k r q : ℕ) → j ≡ k → r ≡ q → weight j r ≡ weight k q
weight-at j k r q e f = ap (λ (a : ℕ). weight a r) e ∙ ap (λ (a : ℕ). weight k a) f

weights-add : (j r n : ℕ) → suc r + suc j ≡ n → weight j (suc r) +ℤ weight (suc j) r ≡ pos n *ℤ weight j r
weights-add j r n e = products_add (factorial j) (factorial r)
  where
    products_add : (a b : ℕ) → pos (a * (suc r * b)) +ℤ pos (suc j * a * b) ≡ pos (n * (a * b))
    products_add a b =
        let one : a * (suc r * b) ≡ suc r * (a * b) = omega arith in
        let two : suc j * a * b ≡ suc j * (a * b) = omega arith in
        let all = ap (λ (k : ℕ). k * (a * b)) e in
        omega (arith, linear)

open_step_in : (m : ℕ → Bool) (n d s : ℕ) → m n ≡ true → s < 2 ^ n
    → open_term m (suc n) d s +ℤ open_term m (suc n) d (2 ^ n + s) ≡ open_term m n (suc d) s
open_step_in m n d s e lt =
    let a =
    weight-at _ _ _ _ (size_below-without n s lt)
    (ap (λ (k : ℕ). k + d) (lacks-without n s lt) ∙ more (lacks n s)) in
    first_term_alone (clear m (suc n) s) (clear m (suc n) (2 ^ n + s)) (clear m n s) _ _ _ (clear-without m n s lt)
    (clear-with m n s lt ∙ rw e (and_false (clear m n s))) a
  where
    more : (r : ℕ) → suc r + d ≡ r + suc d
    more r = omega arith

    first_term_alone : (b c f : Bool) (x y z : ℤ) → b ≡ f → c ≡ false → x ≡ z
        → cond b x (pos 0) +ℤ cond c y (pos 0) ≡ cond f z (pos 0)
    first_term_alone b c f x y z h k i = grind (arith, linear)

open_step_out : (m : ℕ → Bool) (n d s : ℕ) → m n ≡ false → s < 2 ^ n
    → open_term m (suc n) d s +ℤ open_term m (suc n) d (2 ^ n + s) ≡ pos (suc (suc (n + d))) *ℤ open_term m n d s
open_step_out m n d s e lt =
    let a =
    weight-at _ _ _ _ (size_below-without n s lt)
    (ap (λ (k : ℕ). k + d) (lacks-without n s lt) ∙ more (lacks n s)) in
    let b = weight-at _ _ _ _ (size_below-with n s lt) (ap (λ (k : ℕ). k + d) (lacks-with n s lt)) in
    let all = size-lacks n s in
    let c = weights-add (size_below n s) (lacks n s + d) (suc (suc (n + d))) (omega arith) in
    both_terms (clear m (suc n) s) (clear m (suc n) (2 ^ n + s)) (clear m n s)
    (weight (size_below (suc n) s) (lacks (suc n) s + d))
    (weight (size_below (suc n) (2 ^ n + s)) (lacks (suc n) (2 ^ n + s) + d))
    (weight (size_below n s) (lacks n s + d)) (pos (suc (suc (n + d)))) (clear-without m n s lt)
    (clear-with m n s lt ∙ rw e (and_true (clear m n s))) (omega (arith, linear))
  where
    more : (r : ℕ) → suc r + d ≡ suc (r + d)
    more r = omega arith

    both_terms : (b c f : Bool) (x y z k : ℤ) → b ≡ f → c ≡ f → x +ℤ y ≡ k *ℤ z
        → cond b x (pos 0) +ℤ cond c y (pos 0) ≡ k *ℤ cond f z (pos 0)
    both_terms b c f x y z k h i e = grind arith

abbrev open_sum : (ℕ → Bool) → ℕ → ℕ → ℤ
open_sum m n d = sum_below (2 ^ n) (open_term m n d)

-- a sum that is a multiple of a known one
multiplied : (a q f : ℕ) (s t : ℤ) → t ≡ pos q *ℤ s → pos a *ℤ s ≡ pos f → pos a *ℤ t ≡ pos (q * f)
multiplied a q f s t e h = ap (λ z. pos a *ℤ z) e ∙ mul_left_commℤ (pos a) (pos q) s ∙ ap (λ z. pos q *ℤ z) h

open_total : (m : ℕ → Bool) (n d : ℕ) → pos (suc d + count m n) *ℤ open_sum m n d ≡ pos (factorial (suc (n + d)))
open_total m zero d = ap (λ z. pos (suc d + 0) *ℤ (pos 0 +ℤ z)) nobody ∙ ap pos (units_dropped (factorial (0 + d)))
  where
    nobody : weight (size_below 0 0) (lacks 0 0 + d) ≡ weight 0 (0 + d)
    nobody =
        let none = size_below-zero 0 in
        weight-at (size_below 0 0) 0 (lacks 0 0 + d) (0 + d) none (omega arith)

    units_dropped : (f : ℕ) → (suc d + 0) * (0 + 1 * f) ≡ suc (0 + d) * f
    units_dropped f = omega arith
open_total m (suc n) d = cases (m n) refl (open_total m n (suc d)) (open_total m n d)
  where
    suc_to_front : suc d + suc (count m n) ≡ suc (suc d) + count m n
    suc_to_front = omega arith

    top : suc (n + suc d) ≡ suc (suc n + d)
    top = omega arith

    beyond : suc (suc (n + d)) ≡ suc (suc n + d)
    beyond = omega arith

    cases : (b : Bool) → m n ≡ b
        → pos (suc (suc d) + count m n) *ℤ open_sum m n (suc d) ≡ pos (factorial (suc (n + suc d)))
        → pos (suc d + count m n) *ℤ open_sum m n d ≡ pos (factorial (suc (n + d)))
        → pos (suc d + cond b (suc (count m n)) (count m n)) *ℤ open_sum m (suc n) d
        ≡ pos (factorial (suc (suc n + d)))
    cases true e more same =
        ap (λ z. pos (suc d + suc (count m n)) *ℤ z)
        (sum_below-halves n (open_term m (suc n) d)
        ∙ sum_below-same (2 ^ n) (λ s. open_term m (suc n) d s +ℤ open_term m (suc n) d (2 ^ n + s))
        (open_term m n (suc d)) (λ s lt. open_step_in m n d s e lt))
        ∙ ap (λ (k : ℕ). pos k *ℤ open_sum m n (suc d)) suc_to_front
        ∙ more
        ∙ ap (λ (k : ℕ). pos (factorial k)) top
    cases false e more same =
        multiplied (suc d + count m n) (suc (suc (n + d))) (factorial (suc (n + d))) (open_sum m n d)
        (open_sum m (suc n) d)
        (sum_below-halves n (open_term m (suc n) d)
        ∙ sum_below-same (2 ^ n) (λ s. open_term m (suc n) d s +ℤ open_term m (suc n) d (2 ^ n + s))
        (λ s. pos (suc (suc (n + d))) *ℤ open_term m n d s) (λ s lt. open_step_out m n d s e lt)
        ∙ sum_below-times (2 ^ n) (open_term m n d) (pos (suc (suc (n + d))))) same
        ∙ ap (λ (k : ℕ). pos (factorial k)) beyond

-- the orders in which player i stands in front of the others of the set
abbrev closed_term : (ℕ → Bool) → ℕ → ℕ → ℕ → ℤ
closed_term m n i s =
    if has_player s i then pos 0 else (if clear m n s then weight (size_below n s) (lacks n s - 1) else pos 0)

abbrev closed_sum : (ℕ → Bool) → ℕ → ℕ → ℤ
closed_sum m n i = sum_below (2 ^ n) (closed_term m n i)

clear-out : (m : ℕ → Bool) (n s i : ℕ) → i < n → m i ≡ true → clear m n s ≡ true → has_player s i ≡ false
clear-out m zero s i lt e h = absurd (omega arith)
clear-out m (suc n) s i lt e h = elim (less_or_last i n lt) [
  | inl less ↦ clear-out m n s i less e (and_left (clear m n s) (not (has_player s n && m n)) h)
  | inr same ↦ ap (has_player s) same ∙ last (clear m n s) (has_player s n) (m n) (ap m (sym same) ∙ e) h
]
  where
    last : (a b c : Bool) → c ≡ true → (a && not (b && c)) ≡ true → b ≡ false
    last a b c e k = grind arith

pred_zero : (r : ℕ) → suc r - 1 ≡ r + 0
pred_zero r = omega arith

-- the last player is in the set
closed_step_in : (m : ℕ → Bool) (n i s : ℕ) → m n ≡ true
    → ((has_player s i ≡ true → clear m n s ≡ false)
    × ((has_player (2 ^ n + s) i ≡ true) ⊎ (has_player (2 ^ n + s) i ≡ has_player s i))) → s < 2 ^ n
    → closed_term m (suc n) i s +ℤ closed_term m (suc n) i (2 ^ n + s) ≡ open_term m n 0 s
closed_step_in m n i s e out lt =
    let a =
    weight-at _ _ _ _ (size_below-without n s lt)
    (ap (λ (k : ℕ). k - 1) (lacks-without n s lt) ∙ pred_zero (lacks n s)) in
    first_term_alone (has_player s i) (has_player (2 ^ n + s) i) (clear m (suc n) s) (clear m (suc n) (2 ^ n + s))
    (clear m n s) _ _ _ out.0 (clear-without m n s lt) (clear-with m n s lt ∙ rw e (and_false (clear m n s))) a
  where
    first_term_alone : (p q b c f : Bool) (x y z : ℤ) → (p ≡ true → f ≡ false) → b ≡ f → c ≡ false → x ≡ z
        → cond p (pos 0) (cond b x (pos 0)) +ℤ cond q (pos 0) (cond c y (pos 0)) ≡ cond f z (pos 0)
    first_term_alone p q b c f x y z o h k i = grind (arith, linear)

-- the last player is another one outside the set
closed_step_out : (m : ℕ → Bool) (n i s : ℕ) → m n ≡ false → i < n → s < 2 ^ n
    → closed_term m (suc n) i s +ℤ closed_term m (suc n) i (2 ^ n + s) ≡ pos (suc n) *ℤ closed_term m n i s
closed_step_out m n i s e below lt =
    let a = weight-at _ _ _ _ (size_below-without n s lt) (ap (λ (k : ℕ). k - 1) (lacks-without n s lt)) in
    let b = weight-at _ _ _ _ (size_below-with n s lt) (ap (λ (k : ℕ). k - 1) (lacks-with n s lt)) in
    both_terms (has_player s i) (has_player (2 ^ n + s) i) (clear m (suc n) s) (clear m (suc n) (2 ^ n + s))
    (clear m n s)
    (weight (size_below (suc n) s) (lacks (suc n) s - 1))
    (weight (size_below (suc n) (2 ^ n + s)) (lacks (suc n) (2 ^ n + s) - 1))
    (weight (size_below n s) (lacks n s - 1)) (pos (suc n)) (has_player-lower n s i below)
    (clear-without m n s lt) (clear-with m n s lt ∙ rw e (and_true (clear m n s)))
    (λ out. a_sum (lacks n s) (lacks-some n s i below out) (size-lacks n s) a b)
  where
    a_sum : (r : ℕ) → 1 ≤ r → size_below n s + r ≡ n
        → weight (size_below (suc n) s) (lacks (suc n) s - 1) ≡ weight (size_below n s) (suc r - 1)
        → weight (size_below (suc n) (2 ^ n + s)) (lacks (suc n) (2 ^ n + s) - 1)
        ≡ weight (suc (size_below n s)) (r - 1)
        → weight (size_below (suc n) s) (lacks (suc n) s - 1)
        +ℤ weight (size_below (suc n) (2 ^ n + s)) (lacks (suc n) (2 ^ n + s) - 1)
        ≡ pos (suc n) *ℤ weight (size_below n s) (r - 1)
    a_sum zero some all a b = absurd (omega arith)
    a_sum (suc r) some all a b =
        let p : suc r - 1 ≡ r = omega arith in
        let q : suc (suc r) - 1 ≡ suc r = omega arith in
        let c = weights-add (size_below n s) r (suc n) (omega arith) in
        let u = weight-at (size_below n s) (size_below n s) (suc (suc r) - 1) (suc r) refl q in
        let v = weight-at (suc (size_below n s)) (suc (size_below n s)) (suc r - 1) r refl p in
        let w = ap (λ z. pos (suc n) *ℤ z) (weight-at (size_below n s) (size_below n s) (suc r - 1) r refl p) in
        omega (arith, linear, a, b, c, u, v, w)

    both_terms : (p q b c f : Bool) (x y z k : ℤ) → q ≡ p → b ≡ f → c ≡ f → (p ≡ false → x +ℤ y ≡ k *ℤ z)
        → cond p (pos 0) (cond b x (pos 0)) +ℤ cond q (pos 0) (cond c y (pos 0))
        ≡ k *ℤ cond p (pos 0) (cond f z (pos 0))
    both_terms true q b c f x y z k g h i j = rw g (sym (mul-zeroℤ k))
    both_terms false q b c true x y z k g h i j = rw (g, h, i) (j refl)
    both_terms false q b c false x y z k g h i j = rw (g, h, i) (sym (mul-zeroℤ k))

pub closed_total : (m : ℕ → Bool) (n i : ℕ) → i < n → m i ≡ true
    → pos (count m n) *ℤ closed_sum m n i ≡ pos (factorial n)
closed_total m zero i lt e = absurd (omega arith)
closed_total m (suc n) i lt e = elim (less_or_last i n lt) [
  | inl less ↦ cases (m n) refl less (closed_total m n i less e)
  | inr same ↦ inside (ap m (sym same) ∙ e)
      (λ s k. (
        λ h. absurd (false≢true (sym (has_player-last n s k) ∙ ap (has_player s) (sym same) ∙ h)),
        inl (ap (has_player (2 ^ n + s)) same ∙ has_player-upper n s k),
      ))
]
  where
    top : suc (n + 0) ≡ suc n
    top = omega arith

    one_more : suc 0 + count m n ≡ suc (count m n)
    one_more = omega arith

    inside : m n ≡ true
        → ((s : ℕ) → s < 2 ^ n
        → (has_player s i ≡ true → clear m n s ≡ false)
        × ((has_player (2 ^ n + s) i ≡ true) ⊎ (has_player (2 ^ n + s) i ≡ has_player s i)))
        → pos (count m (suc n)) *ℤ closed_sum m (suc n) i ≡ pos (factorial (suc n))
    inside f out =
        ap (λ z. pos (count m (suc n)) *ℤ z)
        (sum_below-halves n (closed_term m (suc n) i)
        ∙ sum_below-same (2 ^ n) (λ s. closed_term m (suc n) i s +ℤ closed_term m (suc n) i (2 ^ n + s))
        (open_term m n 0) (λ s k. closed_step_in m n i s f (out s k) k))
        ∙ ap (λ (k : ℕ). pos k *ℤ open_sum m n 0) (here f ∙ sym one_more)
        ∙ open_total m n 0
        ∙ ap (λ (k : ℕ). pos (factorial k)) top
      where
        here : m n ≡ true → count m (suc n) ≡ suc (count m n)
        here f = rw f refl

    cases : (b : Bool) → m n ≡ b → i < n → pos (count m n) *ℤ closed_sum m n i ≡ pos (factorial n)
        → pos (count m (suc n)) *ℤ closed_sum m (suc n) i ≡ pos (factorial (suc n))
    cases true f less ih =
        inside f
        (λ s k. (
          λ h. not_true (clear m n s) (λ c. false≢true (sym (clear-out m n s i less e c) ∙ h)),
          inr (has_player-lower n s i less),
        ))
    cases false f less ih =
        ap (λ (k : ℕ). pos k *ℤ closed_sum m (suc n) i) (here f)
        ∙ multiplied (count m n) (suc n) (factorial n) (closed_sum m n i) (closed_sum m (suc n) i)
        (sum_below-halves n (closed_term m (suc n) i)
        ∙ sum_below-same (2 ^ n) (λ s. closed_term m (suc n) i s +ℤ closed_term m (suc n) i (2 ^ n + s))
        (λ s. pos (suc n) *ℤ closed_term m n i s) (λ s k. closed_step_out m n i s f less k)
        ∙ sum_below-times (2 ^ n) (closed_term m n i) (pos (suc n))) ih
      where
        here : m n ≡ false → count m (suc n) ≡ count m n
        here f = rw f refl

-- ---- the airport game

clear-is : (n : ℕ) (cost : ℕ → ℕ) (u s : ℕ) → nat_le (greatest_cost n cost s) u ≡ clear (above cost u) n s
clear-is zero cost u s = nothing u
  where
    nothing : (u : ℕ) → nat_le 0 u ≡ true
    nothing u = grind (arith, nat_tests)
clear-is (suc n) cost u s =
    grind (arith, nat_tests)
    ∙ ap (λ b. b && not (has_player s n && nat_lt u (cost n))) (clear-is n cost u s)

-- a number times how far c is above g, unit by unit
layers : (w : ℤ) (g c : ℕ) → sum_below c (λ u. if nat_le g u then w else pos 0) ≡ w *ℤ pos (c - g)
layers w g zero = sym (ap (λ (k : ℕ). w *ℤ pos k) (nothing_above g) ∙ mul-zeroℤ w)
  where
    nothing_above : (g : ℕ) → 0 - g ≡ 0
    nothing_above g = omega arith
layers w g (suc c) = cases (nat_le g c) refl (layers w g c)
  where
    at_most : (g c : ℕ) → nat_le g c ≡ true → pos (suc c - g) ≡ pos (c - g) +ℤ pos 1
    at_most g c e = let le : g ≤ c = grind (arith, nat_tests) in omega (arith, linear)

    beyond : (g c : ℕ) → nat_le g c ≡ false → suc c - g ≡ c - g
    beyond g c e = let lt : c < g = grind (arith, nat_tests) in omega arith

    cases : (b : Bool) → nat_le g c ≡ b → sum_below c (λ u. if nat_le g u then w else pos 0) ≡ w *ℤ pos (c - g)
        → sum_below c (λ u. if nat_le g u then w else pos 0) +ℤ cond b w (pos 0) ≡ w *ℤ pos (suc c - g)
    cases true e ih =
        let more = ap (λ z. w *ℤ z) (at_most g c e) in
        omega (arith, linear, more, mul-addℤ w (pos (c - g)) (pos 1), mul-oneℤ w)
    cases false e ih =
        let same = ap (λ (k : ℕ). w *ℤ pos k) (beyond g c e) in
        omega (arith, linear)

-- what unit u of the cost of player i adds to the term of s
abbrev layer_term : ℕ → ℕ → (ℕ → ℕ) → ℕ → ℕ → ℤ
layer_term n i cost s u =
    if has_player s i then pos 0
    else (if nat_le (greatest_cost n cost s) u then pos (orders_with n (size_below n s)) else pos 0)

layer-closed : (n i : ℕ) (cost : ℕ → ℕ) (u s : ℕ) → layer_term n i cost s u ≡ closed_term (above cost u) n i s
layer-closed n i cost u s =
    let all = size-lacks n s in
    let rest : n - 1 - size_below n s ≡ lacks n s - 1 = omega arith in
    grind (
      arith,
      clear-is n cost u s,
      weight-at (size_below n s) (size_below n s) (n - 1 - size_below n s) (lacks n s - 1) refl rest,
    )

term-layers : (costs : List ℕ) (i s : ℕ) → i < length costs
    → subset_term (airport_worth costs) (length costs) i s
    ≡ neg_ℤ (sum_below (slice_index costs i) (layer_term (length costs) i (slice_index costs) s))
term-layers costs i s lt = cases (has_player s i) refl
  where
    further : (w : ℤ) (g c : ℕ) → w *ℤ (neg_ℤ (pos (max g c)) -ℤ neg_ℤ (pos g)) ≡ neg_ℤ (w *ℤ pos (c - g))
    further w g c =
        let e : neg_ℤ (pos (max g c)) -ℤ neg_ℤ (pos g) ≡ neg_ℤ (pos (c - g)) = omega (arith, ints) in
        ap (λ z. w *ℤ z) e ∙ mul-negℤ w (pos (c - g))

    zero_layers : (k : ℕ) → pos 0 ≡ neg_ℤ (sum_below k (λ u. pos 0))
    zero_layers k = ap neg_ℤ (sym (sum_below-zero k (λ u. pos 0) (λ u h. refl)))

    cases : (b : Bool) → has_player s i ≡ b
        → cond b (pos 0)
        (pos (orders_with (length costs) (size_below (length costs) s))
        *ℤ (airport_worth costs (s + 2 ^ i) -ℤ airport_worth costs s))
        ≡ neg_ℤ
        (sum_below (slice_index costs i)
        (λ u. cond b (pos 0)
        (if nat_le (greatest_cost (length costs) (slice_index costs) s) u
        then pos (orders_with (length costs) (size_below (length costs) s)) else pos 0)))
    cases true e = zero_layers (slice_index costs i)
    cases false e =
        let w = pos (orders_with (length costs) (size_below (length costs) s)) in
        let g = greatest_cost (length costs) (slice_index costs) s in
        let c = slice_index costs i in
        ap (λ (k : ℕ). w *ℤ (neg_ℤ (pos k) -ℤ neg_ℤ (pos g)))
        (greatest_cost-plus (length costs) i (slice_index costs) s lt e)
        ∙ further w g c
        ∙ ap neg_ℤ (sym (layers w g c))

sum_below-swap : (n m : ℕ) (f : ℕ → ℕ → ℤ)
    → sum_below n (λ s. sum_below m (f s)) ≡ sum_below m (λ u. sum_below n (λ s. f s u))
sum_below-swap zero m f = sym (sum_below-zero m (λ u. pos 0) (λ u h. refl))
sum_below-swap (suc n) m f =
    ap (λ z. z +ℤ sum_below m (f n)) (sum_below-swap n m f)
    ∙ sym (sum_below-add m (λ u. sum_below n (λ s. f s u)) (f n))

sum_below-neg : (n : ℕ) (f : ℕ → ℤ) → sum_below n (λ s. neg_ℤ (f s)) ≡ neg_ℤ (sum_below n f)
sum_below-neg zero f = refl
sum_below-neg (suc n) f = omega (arith, linear, sum_below-neg n f)

-- the airport game of the costs
abbrev pub game_of_costs : List ℕ → Game
game_of_costs costs = record { players = length costs; worth = airport_worth costs }

-- each unit of a player's cost is paid by the one of those above it who comes first
pub airport-total : (costs : List ℕ) (i : ℕ) → i < length costs
    → shapley_total (game_of_costs costs) i
    ≡ neg_ℤ (sum_below (slice_index costs i) (λ u. closed_sum (above (slice_index costs) u) (length costs) i))
airport-total costs i lt =
    orders_are_subsets (game_of_costs costs) i lt
    ∙ sum_below-same (2 ^ length costs) (subset_term (airport_worth costs) (length costs) i)
    (λ s. neg_ℤ (sum_below (slice_index costs i) (layer_term (length costs) i (slice_index costs) s)))
    (λ s k. term-layers costs i s lt)
    ∙ sum_below-neg (2 ^ length costs)
    (λ s. sum_below (slice_index costs i) (layer_term (length costs) i (slice_index costs) s))
    ∙ ap neg_ℤ
    (sum_below-swap (2 ^ length costs) (slice_index costs i) (layer_term (length costs) i (slice_index costs))
    ∙ sum_below-same (slice_index costs i)
    (λ u. sum_below (2 ^ length costs) (λ s. layer_term (length costs) i (slice_index costs) s u))
    (λ u. closed_sum (above (slice_index costs) u) (length costs) i)
    (λ u h. sum_below-same (2 ^ length costs) (λ s. layer_term (length costs) i (slice_index costs) s u)
    (closed_term (above (slice_index costs) u) (length costs) i)
    (λ s k. layer-closed (length costs) i (slice_index costs) u s)))

-- L shared equally among those above each unit, where each number of players divides L
pub airport-shares : (costs : List ℕ) (i l : ℕ) → i < length costs
    → ((u : ℕ) → u < slice_index costs i
    → count (above (slice_index costs) u) (length costs)
    * (l / count (above (slice_index costs) u) (length costs)) ≡ l)
    → neg_ℤ (sum_below (slice_index costs i) (λ u. pos (l / count (above (slice_index costs) u) (length costs))))
    *ℤ pos (factorial (length costs)) ≡ pos l *ℤ shapley_total (game_of_costs costs) i
airport-shares costs i l lt divides =
    let each =
    sum_below-same (slice_index costs i)
    (λ u. pos (factorial (length costs)) *ℤ pos (l / count (above (slice_index costs) u) (length costs)))
    (λ u. pos l *ℤ closed_sum (above (slice_index costs) u) (length costs) i) (λ u h. unit_share u h) in
    let left =
    sum_below-times (slice_index costs i) (λ u. pos (l / count (above (slice_index costs) u) (length costs)))
    (pos (factorial (length costs))) in
    let right =
    sum_below-times (slice_index costs i) (λ u. closed_sum (above (slice_index costs) u) (length costs) i)
    (pos l) in
    join (sum_below (slice_index costs i) (λ u. pos (l / count (above (slice_index costs) u) (length costs))))
    (sum_below (slice_index costs i) (λ u. closed_sum (above (slice_index costs) u) (length costs) i))
    (shapley_total (game_of_costs costs) i) (pos (factorial (length costs))) (pos l) (sym left ∙ each ∙ right)
    (airport-total costs i lt)
  where
    join : (a b t f l : ℤ) → f *ℤ a ≡ l *ℤ b → t ≡ neg_ℤ b → neg_ℤ a *ℤ f ≡ l *ℤ t
    join a b t f l e g =
        *ℤ_comm (neg_ℤ a) f ∙ mul-negℤ f a ∙ ap neg_ℤ e ∙ sym (mul-negℤ l b) ∙ ap (λ z. l *ℤ z) (sym g)

    unit_share : (u : ℕ) → u < slice_index costs i
        → pos (factorial (length costs)) *ℤ pos (l / count (above (slice_index costs) u) (length costs))
        ≡ pos l *ℤ closed_sum (above (slice_index costs) u) (length costs) i
    unit_share u h =
        cross_multiplied (count (above (slice_index costs) u) (length costs))
        (l / count (above (slice_index costs) u) (length costs))
        (closed_sum (above (slice_index costs) u) (length costs) i) (factorial (length costs)) (divides u h)
        (closed_total (above (slice_index costs) u) (length costs) i lt (nat_lt-less u (slice_index costs i) h))
      where
        cross_multiplied : (k q : ℕ) (z : ℤ) (f : ℕ) → k * q ≡ l → pos k *ℤ z ≡ pos f → pos f *ℤ pos q ≡ pos l *ℤ z
        cross_multiplied k q z f e g =
            *ℤ_comm (pos f) (pos q) ∙ ap (λ y. pos q *ℤ y) (sym g) ∙ sym (mul_assocℤ (pos q) (pos k) z)
            ∙ ap (λ (m : ℕ). pos m *ℤ z) (mul_comm q k ∙ e)
