-- What the levels of a certificate settle of a difference d between two members of a family, where d i is a number per
-- player: the law over ordered groups, of numbers as columns of one place.
--
--   IsSettled   the coalitions that are listed and the players that have a bound weight differ by nothing
use Rattle.std.proofs.Common.{◌≡◌, ℕ, ◌<◌, IsTrue, List, ℤ, pos, ◌≤ℤ◌, inl, inr}
use Rattle.std.proofs.Common.{arith}
use Rattle.std.proofs.lemmas.Int.{by_lt_z}
use Rattle.definitions.proofs.Ring.{linear}
use Rattle.definitions.specs.Coalitions.{grand_coalition, sum_over}
use Rattle.definitions.specs.Certificates.{Level, is_listed, has_bound, IsOutside, IsAllFixed}
use Rattle.definitions.specs.declared.Mode.TheVariants.{Span}
use Rattle.real_shares.proofs.Cones.{IsCone, Zero}
use Rattle.real_shares.proofs.Settled.{over, Settled, inside_zero, all_fixed_zero}

-- the number of a column isn't positive
abbrev IsLow : (ℕ → ℤ) → Type 0
IsLow f = f 0 ≤ℤ pos 0

low_is_cone : IsCone IsLow
low_is_cone = record {
  none = omega (arith, linear);
  plus = λ f g a b. omega (arith, linear);
  decided = λ f. by_lt_z (pos 0) (f 0) (λ up. inr (λ low. omega (arith, linear))) (λ low. inl low);
  other = λ f high. by_lt_z (pos 0) (f 0) (λ up. omega (arith, linear, up)) (λ low. absurd (high low));
}

zero_column : (f : ℕ → ℤ) → f 0 ≡ pos 0 → Zero IsLow f
zero_column f e = (omega (arith, linear, e), omega (arith, linear, e))

zero_number : (f : ℕ → ℤ) → Zero IsLow f → f 0 ≡ pos 0
zero_number f h = let low = h.0 in let high = h.1 in omega (arith, linear)

abbrev columns : (ℕ → ℤ) → ℕ → ℕ → ℤ
columns d i k = d i

abbrev pub IsSettled : ℕ → (ℕ → ℤ) → List Level → Type 0
IsSettled n d front = Settled IsLow n (columns d) front

pub is_settled : (n : ℕ) (d : ℕ → ℤ) (front : List Level)
    → ((s : ℕ) → IsTrue (is_listed front s) → sum_over n d s ≡ pos 0)
    → ((i : ℕ) → i < n → IsTrue (has_bound front i) → d i ≡ pos 0) → IsSettled n d front
is_settled n d front listed bounded = record {
  listed = λ s h. zero_column (over n (columns d) s) (listed s h);
  bounded = λ i h b. zero_column (columns d i) (bounded i h b);
}

-- a coalition that isn't outside differs by nothing
pub inside_same : (n : ℕ) (d : ℕ → ℤ) (front : List Level) → IsSettled n d front
    → sum_over n d (grand_coalition n) ≡ pos 0 → (s : ℕ) → 0 < s → s < grand_coalition n
    → ¬ IsOutside Span n front s → sum_over n d s ≡ pos 0
inside_same n d front settled all s low high inside =
    zero_number (over n (columns d) s) (inside_zero low_is_cone Span n (columns d) front settled
    (zero_column (over n (columns d) (grand_coalition n)) all) s
    low high inside)

-- where everything is fixed, no player differs
pub all_same : (n : ℕ) (d : ℕ → ℤ) (front : List Level) → IsSettled n d front
    → sum_over n d (grand_coalition n) ≡ pos 0 → IsAllFixed Span n front → (i : ℕ) → i < n → d i ≡ pos 0
all_same n d front settled all fixed i h =
    zero_number (columns d i) (all_fixed_zero low_is_cone Span n (columns d) front settled
    (zero_column (over n (columns d) (grand_coalition n)) all) fixed i h)
