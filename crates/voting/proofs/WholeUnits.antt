-- The least common multiple of 1 to 32 as a common denominator of Shapley shares.
--
-- That number is 144403552893600. Times k! (n - 1 - k)! it is a multiple of n!, for each n up to 32 and each k below n:
-- this is computed here. So no share is refused.
use Rattle.std.proofs.Common.{◌≡◌, ℕ, zero, suc, ◌+◌, ◌-◌, ◌*◌, ◌/◌, ◌%◌, ◌<◌}
use Rattle.std.proofs.Common.{◌≤◌, Bool, true}
use Rattle.std.proofs.Common.{◌&&◌, ◌||◌, nat_eq, nat_le, refl, ap, ◌∙◌, inl, inr, arith}
use Rattle.std.proofs.lemmas.Bool.Decides.{nat_tests}
use Rattle.definitions.specs.Shapley.{factorial}
use Rattle.shapley.specs.Subsets.{orders_with}
use Rattle.shapley.specs.Layers.{common}
use Rattle.shapley.proofs.Sizes.{factorial-some}
use Rattle.definitions.proofs.Cases.{and_parts, less_or_last, from_nat_eq, nat_eq-less, or_other}
use Rattle.voting.specs.Counts.{share_unit}

-- ---- what is tested of each unit, by computation

-- it is whole, it is at most the multiple, and the code's steps lead to it
is_unit : ℕ → ℕ → Bool
is_unit n k =
    nat_eq (common * orders_with n k % factorial n) 0
    &&
    (nat_le (share_unit n k) common
    && (nat_eq (common / n) (share_unit n 0)
    && (nat_eq (k + 1) n || nat_eq (share_unit n k * (k + 1) / (n - 1 - k)) (share_unit n (k + 1)))))

abbrev units_below : ℕ → ℕ → Bool
units_below n zero = true
units_below n (suc k) = is_unit n k && units_below n k

abbrev all_units : ℕ → Bool
all_units zero = true
all_units (suc n) = units_below (suc n) (suc n) && all_units n

tested : all_units 32 ≡ true
unfolding is_unit share_unit
tested = refl

from_below : (n m k : ℕ) → k < m → units_below n m ≡ true → is_unit n k ≡ true
from_below n zero k lt e = absurd (omega arith)
from_below n (suc m) k lt e =
    let two = and_parts (is_unit n m) (units_below n m) e in
    elim (less_or_last k m lt) [ inl less ↦ from_below n m k less two.1 | inr same ↦ ap (is_unit n) same ∙ two.0 ]

from_all : (m n k : ℕ) → n ≤ m → k < n → all_units m ≡ true → is_unit n k ≡ true
from_all zero n k le lt e = absurd (omega arith)
from_all (suc m) n k le lt e =
    let two = and_parts (units_below (suc m) (suc m)) (all_units m) e in
    elim (less_or_last n (suc m) (omega arith)) [
      | inl less ↦ from_all m n k (omega arith) lt two.1
      | inr same ↦ ap (λ (a : ℕ). is_unit a k) same ∙ from_below (suc m) (suc m) k (omega arith) two.0
    ]

at_most : (m n : ℕ) → nat_le m n ≡ true → m ≤ n
at_most m n e = grind (arith, nat_tests)

-- what the test says
record IsUnit (n k : ℕ) : Type 0 where
  whole : common * orders_with n k % factorial n ≡ 0
  small : share_unit n k ≤ common
  first : common / n ≡ share_unit n 0
  next : k + 1 < n → share_unit n k * (k + 1) / (n - 1 - k) ≡ share_unit n (k + 1)

unit : (n k : ℕ) → n ≤ 32 → k < n → IsUnit n k
unfolding is_unit
unit n k few lt =
    let one = and_parts (nat_eq (common * orders_with n k % factorial n) 0) _ (from_all 32 n k few lt tested) in
    let two = and_parts (nat_le (share_unit n k) common) _ one.1 in
    let three = and_parts (nat_eq (common / n) (share_unit n 0)) _ two.1 in
    record {
      whole = from_nat_eq (common * orders_with n k % factorial n) 0 one.0;
      small = at_most (share_unit n k) common two.0;
      first = from_nat_eq (common / n) (share_unit n 0) three.0;
      next = λ less. from_nat_eq (share_unit n k * (k + 1) / (n - 1 - k)) (share_unit n (k + 1))
          (or_other (nat_eq (k + 1) n) _ (nat_eq-less (k + 1) n less) three.1);
    }

pub unit-small : (n k : ℕ) → n ≤ 32 → k < n → share_unit n k ≤ common
unit-small n k few lt = (unit n k few lt).small

-- ---- from one size to the next

pub unit-first : (n k : ℕ) → n ≤ 32 → k < n → common / n ≡ share_unit n 0
unit-first n k few lt = (unit n k few lt).first

pub unit-next : (n k : ℕ) → n ≤ 32 → k + 1 < n → share_unit n k * (k + 1) / (n - 1 - k) ≡ share_unit n (k + 1)
unit-next n k few lt = (unit n k few (omega arith)).next lt

whole : (a f : ℕ) → 1 ≤ f → a % f ≡ 0 → a / f * f ≡ a
whole a f h e = omega arith

pub unit-whole : (n k : ℕ) → n ≤ 32 → k < n → share_unit n k * factorial n ≡ common * orders_with n k
unfolding share_unit
unit-whole n k few lt =
    whole (common * orders_with n k) (factorial n) (factorial-some n) (unit n k few lt).whole
