-- Pairs of a key and a weight, one for each number that passes a test, in ascending order.
use Rattle.std.proofs.Common.{◌≡◌, ℕ, zero, suc, ◌+◌, ◌<◌, ◌≤◌, Bool, true, false, cond, ◌&&◌, nat_eq, List, [], ◌∷◌}
use Rattle.std.proofs.Common.{length, ℤ, pos, ◌+ℤ◌, ◌*ℤ◌, int_le, refl, ap, subst, ◌∙◌, inl, inr, arith, if◌then◌else◌}
use Rattle.std.specs.List.{AllByRecursion, list_any}
use Rattle.std.proofs.lemmas.Bool.{false≢true}
use Rattle.definitions.proofs.Ring.{linear, zero-mulℤ}
use Rattle.definitions.proofs.Members.{times_bit, sum_below-same, sum_below-front}
use Rattle.definitions.proofs.Cases.{from_nat_eq, nat_eq-same, or_cases, or_left, or_right, and_parts, same_or_later}
use Rattle.definitions.specs.Sums.{sum_below, weighted_sum}
use Rattle.definitions.specs.Coalitions.{weight_at}
use Rattle.definitions.specs.Certificates.{number_at, Ascends}
use Rattle.law_duality.proofs.BondarevaShapley.{member, weights_at}
use Rattle.law_duality.proofs.Farkas.{unit_at, sum_below-unit}
use lib.IntN.{*ℤ_comm}

-- the keys and weights of the numbers from t on, c of them, that pass the test
abbrev pub chosen : (ℕ → ℕ) → (ℕ → Bool) → (ℕ → ℤ) → ℕ → ℕ → List (ℕ × ℤ)
chosen key test w t zero = []
chosen key test w t (suc c) =
    if test t then (key t, w t) ∷ chosen key test w (t + 1) c else chosen key test w (t + 1) c

pub chosen_ascends : (key : ℕ → ℕ) (test : ℕ → Bool) (w : ℕ → ℤ) → ((t : ℕ) → key t + 1 ≤ key (t + 1))
    → (low t c : ℕ) → low ≤ key t → Ascends low (chosen key test w t c)
chosen_ascends key test w rises low t zero h = tt
chosen_ascends key test w rises low t (suc c) h =
    ascends_either (test t) (chosen_ascends key test w rises (key t + 1) (t + 1) c (rises t))
    (chosen_ascends key test w rises low (t + 1) c (let r = rises t in omega (arith, r, h)))
  where
    ascends_either : (b : Bool) → Ascends (key t + 1) (chosen key test w (t + 1) c)
        → Ascends low (chosen key test w (t + 1) c)
        → Ascends low (cond b ((key t, w t) ∷ chosen key test w (t + 1) c) (chosen key test w (t + 1) c))
    ascends_either b taken left = grind arith

pub chosen_all : (P : ℕ × ℤ → Type 0) (key : ℕ → ℕ) (test : ℕ → Bool) (w : ℕ → ℤ) (t c : ℕ)
    → ((k : ℕ) → k < t + c → test k ≡ true → P (key k, w k)) → AllByRecursion P (chosen key test w t c)
chosen_all P key test w t zero h = tt
chosen_all P key test w t (suc c) h =
    all_either (test t) refl (chosen_all P key test w (t + 1) c (λ k lt e. h k (omega arith) e))
  where
    all_either : (b : Bool) → test t ≡ b → AllByRecursion P (chosen key test w (t + 1) c)
        → AllByRecursion P (cond b ((key t, w t) ∷ chosen key test w (t + 1) c) (chosen key test w (t + 1) c))
    all_either b e ih = grind arith

-- numbers that don't pass weigh nothing, so nothing is lost
pub chosen_sum : (f : ℕ → ℤ) (key : ℕ → ℕ) (test : ℕ → Bool) (w : ℕ → ℤ) (t c : ℕ)
    → ((k : ℕ) → test k ≡ false → w k ≡ pos 0)
    → weighted_sum f (chosen key test w t c) ≡ sum_below c (λ k. w (t + k) *ℤ f (key (t + k)))
chosen_sum f key test w t zero none = refl
chosen_sum f key test w t (suc c) none =
    let ih = chosen_sum f key test w (t + 1) c none in
    let moved =
    sum_below-same c (λ k. w (t + 1 + k) *ℤ f (key (t + 1 + k))) (λ k. w (t + suc k) *ℤ f (key (t + suc k)))
    (λ k h. ap (λ (s : ℕ). w s *ℤ f (key s)) (shift k)) in
    let first : w (t + 0) *ℤ f (key (t + 0)) ≡ w t *ℤ f (key t) = ap (λ (s : ℕ). w s *ℤ f (key s)) (omega arith) in
    let front = sum_below-front c (λ k. w (t + k) *ℤ f (key (t + k))) in
    omega (arith, linear, sum_either (test t) refl, ih, moved, first, front)
  where
    shift : (k : ℕ) → t + 1 + k ≡ t + suc k
    shift k = omega arith

    sum_either : (b : Bool) → test t ≡ b
        → weighted_sum f (cond b ((key t, w t) ∷ chosen key test w (t + 1) c) (chosen key test w (t + 1) c))
        ≡ w t *ℤ f (key t) +ℤ weighted_sum f (chosen key test w (t + 1) c)
    sum_either b e = grind (arith, linear, zero-mulℤ)

pub chosen_from_zero : (f : ℕ → ℤ) (key : ℕ → ℕ) (test : ℕ → Bool) (w : ℕ → ℤ) (c : ℕ)
    → ((k : ℕ) → test k ≡ false → w k ≡ pos 0)
    → weighted_sum f (chosen key test w 0 c) ≡ sum_below c (λ k. w k *ℤ f (key k))
chosen_from_zero f key test w c none =
    chosen_sum f key test w 0 c none
    ∙ sum_below-same c (λ k. w (0 + k) *ℤ f (key (0 + k))) (λ k. w k *ℤ f (key k))
    (λ k lt. ap (λ (s : ℕ). w s *ℤ f (key s)) (omega arith))

-- the weights at a player
pub chosen_weight : (key : ℕ → ℕ) (test : ℕ → Bool) (w : ℕ → ℤ) (c i : ℕ)
    → ((k : ℕ) → test k ≡ false → w k ≡ pos 0)
    → weight_at (chosen key test w 0 c) i ≡ sum_below c (λ k. w k *ℤ member (key k) i)
chosen_weight key test w c i none =
    weights_at (chosen key test w 0 c) i ∙ chosen_from_zero (λ s. member s i) key test w c none

numbers_at : (ps : List (ℕ × ℤ)) (i : ℕ) → number_at ps i ≡ weighted_sum (unit_at i) ps
numbers_at [] i = refl
numbers_at (p ∷ ps) i = omega (arith, linear, numbers_at ps i, times_bit (nat_eq p.0 i) p.1)

pub chosen_number : (test : ℕ → Bool) (w : ℕ → ℤ) (c i : ℕ) → i < c → ((k : ℕ) → test k ≡ false → w k ≡ pos 0)
    → number_at (chosen (λ k. k) test w 0 c) i ≡ w i
chosen_number test w c i lt none =
    numbers_at (chosen (λ k. k) test w 0 c) i ∙ chosen_from_zero (unit_at i) (λ k. k) test w c none
    ∙ sum_below-same c (λ k. w k *ℤ unit_at i k) (λ k. unit_at i k *ℤ w k) (λ k h. *ℤ_comm (w k) (unit_at i k))
    ∙ sum_below-unit c i w lt

-- ---- keys that are listed

abbrev is_key : ℕ → ℕ × ℤ → Bool
is_key s p = nat_eq p.0 s

-- the key of a number that passes is listed
pub chosen_any : (key : ℕ → ℕ) (test : ℕ → Bool) (w : ℕ → ℤ) (t c k : ℕ) → t ≤ k → k < t + c → test k ≡ true
    → list_any (λ (p : ℕ × ℤ). nat_eq p.0 (key k)) (chosen key test w t c) ≡ true
chosen_any key test w t zero k low high e = absurd (omega arith)
chosen_any key test w t (suc c) k low high e = elim (same_or_later t k low) [
  | inl same ↦ here (test t) (ap test same ∙ e) (ap key same)
  | inr later ↦ any_either (test t) (chosen_any key test w (t + 1) c k later (omega arith) e)
]
  where
    here : (b : Bool) → b ≡ true → key t ≡ key k
        → list_any (is_key (key k))
        (cond b ((key t, w t) ∷ chosen key test w (t + 1) c) (chosen key test w (t + 1) c))
        ≡ true
    here b e same = grind (arith, nat_eq-same, or_left)

    any_either : (b : Bool) → list_any (is_key (key k)) (chosen key test w (t + 1) c) ≡ true
        → list_any (is_key (key k))
        (cond b ((key t, w t) ∷ chosen key test w (t + 1) c) (chosen key test w (t + 1) c))
        ≡ true
    any_either b ih = grind (arith, or_right)

pub some_any : (test : ℕ × ℤ → Bool) (ps : List (ℕ × ℤ)) → list_any test ps ≡ true → 1 ≤ length ps
some_any test [] e = absurd (false≢true e)
some_any test (p ∷ ps) e = omega arith

-- what holds of each key holds of one that is listed
pub any_key : (P : ℕ → Type 0) (ps : List (ℕ × ℤ)) (s : ℕ) → AllByRecursion (λ (p : ℕ × ℤ). P p.0) ps
    → list_any (λ (p : ℕ × ℤ). nat_eq p.0 s) ps ≡ true → P s
any_key P [] s h e = absurd (false≢true e)
any_key P (p ∷ ps) s h e = elim (or_cases (nat_eq p.0 s) (list_any (λ (p : ℕ × ℤ). nat_eq p.0 s) ps) e) [
  | inl here ↦ subst P (from_nat_eq p.0 s here) h.0
  | inr there ↦ any_key P ps s h.1 there
]

pub any_weighty : (P : ℕ → Type 0) (ps : List (ℕ × ℤ)) (i : ℕ) → AllByRecursion (λ (p : ℕ × ℤ). P p.0) ps
    → list_any (λ (b : ℕ × ℤ). nat_eq b.0 i && int_le (pos 1) b.1) ps ≡ true → P i
any_weighty P [] i h e = absurd (false≢true e)
any_weighty P (p ∷ ps) i h e =
    elim
    (or_cases (nat_eq p.0 i && int_le (pos 1) p.1)
    (list_any (λ (b : ℕ × ℤ). nat_eq b.0 i && int_le (pos 1) b.1) ps) e) [
      | inl here ↦ subst P (from_nat_eq p.0 i (and_parts (nat_eq p.0 i) (int_le (pos 1) p.1) here).0) h.0
      | inr there ↦ any_weighty P ps i h.1 there
    ]
