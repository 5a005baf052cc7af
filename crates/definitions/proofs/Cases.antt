-- Cases of an order and of truth values, and what tests of numbers say.
--
-- Lemmas are named by what they give; the statement of each is one line.
use Rattle.std.proofs.Common.{◌≡◌, ◌≢◌, ◌⊎◌, ℕ, suc, ◌+◌, ◌-◌, ◌<◌, ◌≤◌, Bool}
use Rattle.std.proofs.Common.{true, false, ◌&&◌, ◌||◌, not}
use Rattle.std.proofs.Common.{nat_eq, nat_lt, ℤ, ◌≤ℤ◌, int_lt, cond, refl, sym, inl, inr}
use Rattle.std.proofs.Common.{arith}
use Rattle.std.proofs.lemmas.Bool.{false≢true}
use Rattle.std.proofs.lemmas.Bool.Decides.{nat_tests}
use Rattle.std.proofs.lemmas.Int.{ints}
use Rattle.std.specs.Int.{int_max, int_min}

-- ---- numbers

pub below_or_above : (i n : ℕ) → (i < n) ⊎ (n ≤ i)
below_or_above i n = grind arith

pub suc-less_one : (i : ℕ) → suc i - 1 ≡ i
suc-less_one i = omega arith

pub same_or_other : (i j : ℕ) → (i ≡ j) ⊎ (i ≢ j)
same_or_other i j = grind arith

pub less_or_greater : (i j : ℕ) → i ≢ j → (i < j) ⊎ (j < i)
less_or_greater i j h = grind arith

pub less_same_or_greater : (i j : ℕ) → (i < j) ⊎ ((i ≡ j) ⊎ (j < i))
less_same_or_greater i j = grind arith

pub less_or_last : (i n : ℕ) → i < suc n → (i < n) ⊎ (i ≡ n)
less_or_last i n h = grind arith

pub less_or_last_of : (i n : ℕ) → i < n + 1 → (i < n) ⊎ (i ≡ n)
less_or_last_of i n h = grind arith

pub outside_fewer : (h i b : ℕ) → (h < i) ⊎ (i + suc b ≤ h) → (h < i) ⊎ (i + b ≤ h)
outside_fewer h i b (inl less) = inl less
outside_fewer h i b (inr past) = inr (omega arith)

pub last_or_less : (i n : ℕ) → i < suc n → (i ≡ n) ⊎ (i < n)
last_or_less i n h = grind arith

pub last_or_less_of : (i n : ℕ) → i < n + 1 → (i ≡ n) ⊎ (i < n)
last_or_less_of i n h = grind arith

pub same_or_less : (i j : ℕ) → i ≤ j → (i ≡ j) ⊎ (i < j)
same_or_less i j h = grind arith

pub same_or_later : (i j : ℕ) → i ≤ j → (i ≡ j) ⊎ (i + 1 ≤ j)
same_or_later i j h = grind arith

pub next_or_last : (i n : ℕ) → i < n → (suc i < n) ⊎ (suc i ≡ n)
next_or_last i n h = grind arith

pub next_below : (i j n : ℕ) → i < j → j < n → i + 1 < n
next_below i j n h k = omega arith

pub gap_below : (n i j : ℕ) → n ≤ i → i < j → i - n < j - n
gap_below n i j h k = omega arith

-- ---- tests of numbers

pub nat_eq-same : (i : ℕ) → nat_eq i i ≡ true
nat_eq-same i = grind (arith, nat_tests)

pub nat_eq-other : (i j : ℕ) → i ≢ j → nat_eq i j ≡ false
nat_eq-other i j h = grind (arith, nat_tests)

pub nat_eq-less : (i j : ℕ) → i < j → nat_eq i j ≡ false
nat_eq-less i j h = grind (arith, nat_tests)

pub nat_eq-some : (k m : ℕ) → k < m → nat_eq m 0 ≡ false
nat_eq-some k m h = grind (arith, nat_tests)

pub nat_eq-turned : (i j : ℕ) → nat_eq i j ≡ false → nat_eq j i ≡ false
nat_eq-turned i j h = grind (arith, nat_tests)

pub nat_lt-past : (i n : ℕ) → n ≤ i → nat_lt i n ≡ false
nat_lt-past i n h = grind (arith, nat_tests)

pub from_nat_eq : (i j : ℕ) → nat_eq i j ≡ true → i ≡ j
from_nat_eq i j h = grind (arith, nat_tests)

pub from_not_nat_eq : (i j : ℕ) → nat_eq i j ≡ false → j ≢ i
from_not_nat_eq i j h = grind (arith, nat_tests)

pub from_nat_lt : (i j : ℕ) → nat_lt i j ≡ true → i < j
from_nat_lt i j h = grind (arith, nat_tests)

pub from_not_nat_lt : (i j : ℕ) → nat_lt i j ≡ false → j ≤ i
from_not_nat_lt i j h = grind (arith, nat_tests)

pub zero_bit : (b : ℕ) → b < 2 → nat_eq b 1 ≡ false → b ≡ 0
zero_bit b h e = grind (arith, nat_tests)

pub same_bit : (a b : ℕ) → a < 2 → b < 2 → nat_eq a 1 ≡ nat_eq b 1 → a ≡ b
same_bit a b h k e = grind (arith, nat_tests)

pub nat_eq-equal : (i j : ℕ) → i ≡ j → nat_eq i j ≡ true
nat_eq-equal i j h = grind (arith, nat_tests)

pub nat_lt-less : (i j : ℕ) → i < j → nat_lt i j ≡ true
nat_lt-less i j h = grind (arith, nat_tests)

-- ---- truth values

pub true_or_false : (a : Bool) → (a ≡ true) ⊎ (a ≡ false)
true_or_false true = inl refl
true_or_false false = inr refl

pub not_true : (a : Bool) → ¬ (a ≡ true) → a ≡ false
not_true true h = absurd (h refl)
not_true false h = refl

pub from_not : (a : Bool) → not a ≡ true → a ≡ false
from_not true e = absurd (false≢true e)
from_not false e = refl

pub or_cases : (a b : Bool) → (a || b) ≡ true → (a ≡ true) ⊎ (b ≡ true)
or_cases true b h = inl refl
or_cases false b h = inr h

pub or_other : (a b : Bool) → a ≡ false → (a || b) ≡ true → b ≡ true
or_other true b e h = absurd (false≢true (sym e))
or_other false b e h = h

pub or_left : (a b : Bool) → a ≡ true → (a || b) ≡ true
or_left true b h = refl
or_left false b h = absurd (false≢true h)

pub or_right : (a b : Bool) → b ≡ true → (a || b) ≡ true
or_right true b h = refl
or_right false b h = h

pub or_either : (a b : Bool) → (a ≡ true) ⊎ (b ≡ true) → (a || b) ≡ true
or_either a b (inl h) = or_left a b h
or_either a b (inr h) = or_right a b h

pub neither : (a b : Bool) → (a || b) ≡ false → (a ≡ false) × (b ≡ false)
neither true b h = absurd (false≢true (sym h))
neither false b h = (refl, h)

pub or_true : (a : Bool) → (a || true) ≡ true
or_true true = refl
or_true false = refl

pub or_false : (a : Bool) → (a || false) ≡ a
or_false true = refl
or_false false = refl

pub and_both : (a b : Bool) → a ≡ true → b ≡ true → (a && b) ≡ true
and_both true b h k = k
and_both false b h k = absurd (false≢true h)

pub and_parts : (a b : Bool) → (a && b) ≡ true → (a ≡ true) × (b ≡ true)
and_parts true b h = (refl, h)
and_parts false b h = absurd (false≢true h)

pub and_left : (a b : Bool) → (a && b) ≡ true → a ≡ true
and_left a b h = (and_parts a b h).0

pub and_right : (a b : Bool) → (a && b) ≡ true → b ≡ true
and_right a b h = (and_parts a b h).1

pub and_either : (a b : Bool) → (a && b) ≡ false → (a ≡ false) ⊎ (b ≡ false)
and_either true b h = inr h
and_either false b h = inl refl

pub and_true : (a : Bool) → (a && true) ≡ a
and_true true = refl
and_true false = refl

pub and_false : (a : Bool) → (a && false) ≡ false
and_false true = refl
and_false false = refl

-- ---- the greater and the lesser of two numbers

pub int_max-cases : (a b : ℤ) → ((int_max a b ≡ a) × (b ≤ℤ a)) ⊎ ((int_max a b ≡ b) × (a ≤ℤ b))
int_max-cases a b =
    let step : (t : Bool) → int_lt b a ≡ t → ((cond t a b ≡ a) × (b ≤ℤ a)) ⊎ ((cond t a b ≡ b) × (a ≤ℤ b)) = elim [
      | true ↦ λ e. inl (refl, omega (arith, ints))
      | false ↦ λ e. inr (refl, omega (arith, ints))
    ] in
    step (int_lt b a) refl

pub int_min-left : (a b : ℤ) → a ≤ℤ b → int_min a b ≡ a
int_min-left a b h = grind (arith, ints)

pub int_min-right : (a b : ℤ) → b ≤ℤ a → int_min a b ≡ b
int_min-right a b h = grind (arith, ints)
