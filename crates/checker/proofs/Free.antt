-- The free players as a mask.
use Rattle.std.proofs.Common.{◌≡◌, ℕ, ◌+◌, ◌*◌, ◌/◌, ◌%◌, ◌^◌, ◌<◌, ◌≤◌, Bool}
use Rattle.std.proofs.Common.{true, false, not, ◌&&◌}
use Rattle.std.proofs.Common.{nat_lt, IsTrue, Option, Some, None, MatchOption, ℤ, List, arith, refl}
use Rattle.std.proofs.Common.{sym, ap, subst, ◌∙◌, inl, inr, div-add-mod', mod-lt}
use Rattle.std.specs.Int.{bit_at}
use Rattle.std.proofs.Math.Pow.{pow_pos}
use Rattle.std.proofs.lemmas.Bool.{false≢true}
use Rattle.std.proofs.lemmas.Bool.Decides.{nat_tests}
use Rattle.std.proofs.lemmas.Nat.Bits.{bit_at_cat_low, bit_at_above, same_from_bits, bit_at-lt}
use Rattle.definitions.specs.Sums.{IsGreatest}
use Rattle.definitions.specs.Coalitions.{has_player, some_below, splits}
use Rattle.definitions.specs.Games.{Game, Allocation, measured_excess, HasTwo, IsMeasuredMaximum}
use Rattle.definitions.specs.Certificates.{Level, is_free, IsOutside, IsAllFixed}
use Rattle.definitions.specs.Failures.{IsLeastUnfixed}
use Rattle.checker.specs.Fixed.{IsFreeSet}
use Rattle.checker.specs.Meaning.{IsGreatestOutside}
use Rattle.fractions.specs.Fraction.{Fraction}
use Rattle.worth_core.specs.Measured.{IsMeasuredBound}
use Rattle.definitions.specs.declared.Measure.{Measure}
use Rattle.definitions.specs.declared.Mode.TheVariants.{Players}
use Rattle.definitions.proofs.Cases.{below_or_above, zero_bit, and_parts, less_same_or_greater}
use Rattle.definitions.proofs.Splits.{some_below-same, some_below-true}

-- ---- masks

pub below_from_bits : (n s : ℕ) → ((j : ℕ) → n ≤ j → bit_at s j ≡ 0) → s < 2 ^ n
below_from_bits n s h =
    let low : s % 2 ^ n < 2 ^ n = mod-lt s (pow_pos n) in
    let cut : s / 2 ^ n * 2 ^ n + s % 2 ^ n ≡ s = div-add-mod' s (2 ^ n) in
    let same : (j : ℕ) → bit_at s j ≡ bit_at (s % 2 ^ n) j = λ j. elim (below_or_above j n) [
      | inl lt ↦ ap (λ (t : ℕ). bit_at t j) (sym cut) ∙ bit_at_cat_low (s / 2 ^ n) n (s % 2 ^ n) j lt
      | inr le ↦ h j le ∙ sym (bit_at_above (s % 2 ^ n) n j low le)
    ] in
    subst (λ (t : ℕ). t < 2 ^ n) (sym (same_from_bits s (s % 2 ^ n) same)) low

pub within_from_players : (n s : ℕ) → ((j : ℕ) → n ≤ j → has_player s j ≡ false) → s < 2 ^ n
within_from_players n s h = below_from_bits n s (λ j le. zero_bit (bit_at s j) (bit_at-lt s j) (h j le))

-- ---- tests below n

pub free_at : (n : ℕ) (levels : List Level) (f i : ℕ) → IsFreeSet n levels f → i < n
    → has_player f i ≡ is_free n levels i
free_at n levels f i h lt = h.free i ∙ passes (nat_lt i n) (is_free n levels i) (grind (arith, nat_tests))
  where
    passes : (a b : Bool) → a ≡ true → (a && b) ≡ b
    passes true b e = refl
    passes false b e = absurd (false≢true e)

pub splits-free : (n : ℕ) (levels : List Level) (f s : ℕ) → IsFreeSet n levels f
    → splits n (has_player f) s ≡ splits n (is_free n levels) s
splits-free n levels f s h =
    let a =
    some_below-same n (λ i. has_player f i && has_player s i) (λ i. is_free n levels i && has_player s i)
    (λ i lt. ap (λ (b : Bool). b && has_player s i) (free_at n levels f i h lt)) in
    let b =
    some_below-same n (λ i. has_player f i && not (has_player s i))
    (λ i. is_free n levels i && not (has_player s i))
    (λ i lt. ap (λ (b : Bool). b && not (has_player s i)) (free_at n levels f i h lt)) in
    cc

-- two members that differ
pub two_of : (n f i j : ℕ) → i < n → j < n → IsTrue (has_player f i) → IsTrue (has_player f j) → (i ≡ j → ⊥)
    → HasTwo n f
two_of n f i j li lj hi hj ne = elim (less_same_or_greater i j) [
  | inl lt ↦ (i, j, lt, lj, hi, hj)
  | inr k ↦ elim k [ inl e ↦ absurd (ne e) | inr lt ↦ (j, i, lt, li, hj, hi) ]
]

pub none_outside : (n : ℕ) (levels : List Level) (f : ℕ) → IsFreeSet n levels f → ¬ HasTwo n f → (s : ℕ)
    → ¬ IsOutside Players n levels s
none_outside n levels f h one s cuts =
    let halves =
    and_parts (some_below n (λ i. has_player f i && has_player s i))
    (some_below n (λ i. has_player f i && not (has_player s i))) (splits-free n levels f s h ∙ cuts) in
    let a = some_below-true n (λ i. has_player f i && has_player s i) halves.0 in
    let b = some_below-true n (λ i. has_player f i && not (has_player s i)) halves.1 in
    let ina = and_parts (has_player f a.0) (has_player s a.0) a.2 in
    let inb = and_parts (has_player f b.0) (not (has_player s b.0)) b.2 in
    one
    (two_of n f a.0 b.0 a.1 b.1 ina.0 inb.0
    (λ e. apart (has_player s a.0) (has_player s b.0) (ap (has_player s) e) ina.1 inb.1))
  where
    apart : (p q : Bool) → p ≡ q → p ≡ true → not q ≡ true → ⊥
    apart true true e x y = false≢true y
    apart true false e x y = false≢true (sym e)
    apart false q e x y = false≢true x

pub greatest_from_split : (measure : Measure) (g : Game) (x : Allocation) (levels : List Level) (f : ℕ) (m : ℤ)
    → IsFreeSet g.players levels f → IsMeasuredMaximum measure g x f m
    → IsGreatest (λ s. (s < 2 ^ g.players) × IsOutside Players g.players levels s) (measured_excess measure g x) m
greatest_from_split measure g x levels f m h top = (
  (top.0.0, (top.0.1.0, sym (splits-free g.players levels f top.0.0 h) ∙ top.0.1.1), top.0.2),
  λ s k. top.1 s (k.0, splits-free g.players levels f s h ∙ k.1),
)

pub all_fixed_from : (n : ℕ) (levels : List Level) (f : ℕ) → IsFreeSet n levels f → ¬ HasTwo n f
    → IsAllFixed Players n levels
all_fixed_from n levels f h one i j li lj hi hj = elim (less_same_or_greater i j) [
  | inl lt ↦ absurd (one (i, j, lt, lj, free_at n levels f i h li ∙ hi, free_at n levels f j h lj ∙ hj))
  | inr k ↦ elim k [
    | inl e ↦ e
    | inr lt ↦ absurd (one (j, i, lt, li, free_at n levels f j h lj ∙ hj, free_at n levels f i h li ∙ hi))
  ]
]

pub not_all_fixed : (n : ℕ) (levels : List Level) (f : ℕ) → IsFreeSet n levels f → HasTwo n f
    → ¬ IsAllFixed Players n levels
not_all_fixed n levels f h (i, j, lt, lj, hi, hj) all =
    let li : i < n = omega arith in
    let same : i ≡ j =
    all i j li lj (sym (free_at n levels f i h li) ∙ hi) (sym (free_at n levels f j h lj) ∙ hj) in
    absurd (omega arith)

pub least_from_first : (n : ℕ) (levels : List Level) (f i : ℕ) → IsFreeSet n levels f → i < n
    → IsTrue (has_player f i) → ((j : ℕ) → j < i → has_player f j ≡ false) → IsLeastUnfixed Players n levels i
least_from_first n levels f i h lt here before = (
  lt,
  sym (free_at n levels f i h lt) ∙ here,
  λ j k e. false≢true (sym (before j k) ∙ free_at n levels f j h (omega arith) ∙ e),
)

pub found_first : (n : ℕ) (levels : List Level) (f : ℕ) (o : Option ℕ) → IsFreeSet n levels f → HasTwo n f
    → MatchOption o ((i : ℕ) → 0 ≤ i → i < n → has_player f i ≡ false)
    (λ i. (0 ≤ i) × (i < n) × IsTrue (has_player f i) × ((j : ℕ) → 0 ≤ j → j < i → has_player f j ≡ false))
    → MatchOption o (IsAllFixed Players n levels)
    (λ i. (¬ IsAllFixed Players n levels) × IsLeastUnfixed Players n levels i)
found_first n levels f None h (i, j, lt, lj, hi, hj) k = absurd (false≢true (sym (k j (omega arith) lj) ∙ hj))
found_first n levels f (Some i) h two k =
    (not_all_fixed n levels f h two, least_from_first n levels f i h k.1 k.2 (λ j lt. k.3 j (omega arith) lt))

-- the bound over the coalitions that split the free players is that over those outside
pub split_found : (measure : Measure) (g : Game) (x : Allocation) (levels : List Level) (f : ℕ) (r : Fraction)
    → IsFreeSet g.players levels f → IsMeasuredBound measure g x f r
    → IsGreatestOutside Players measure g x levels (Some r)
split_found measure g x levels f r h bound =
    (bound.0, greatest_from_split measure g x levels f bound.0 h bound.1, bound.2)
