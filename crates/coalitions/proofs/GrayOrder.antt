-- Gray order: from each step to the next one player comes or goes, and each coalition comes once.
--
-- Half of a Gray code is the Gray code of half the number (Gray 1953). Its lowest bit is the parity of the number and
-- its half. So no mask appears twice, and each appears (`one_step`, `has_step`). From each step to the next one bit
-- changes: the earlier number has ones below the lowest bit of the next, so the sums of neighbouring bits differ only
-- there (`flips`).
use Rattle.std.proofs.Common.{◌≡◌, ℕ, zero, suc, ◌+◌, ◌-◌, ◌*◌, ◌/◌, ◌%◌, ◌^◌}
use Rattle.std.proofs.Common.{◌<◌, ◌≤◌, Bool, true}
use Rattle.std.proofs.Common.{false, cond, not, nat_eq, List, ◌∷◌, length, map, Option, Some}
use Rattle.std.proofs.Common.{None}
use Rattle.std.proofs.Common.{MatchOption, refl, sym, ap, ◌∙◌, arith, inl, inr}
use Rattle.std.proofs.lemmas.Bool.Decides.{nat_tests}
use Rattle.std.proofs.lemmas.Nat.{xor_lt}
use Rattle.std.proofs.lemmas.Nat.Bits.{bit_at_xor, bit_at-suc, bit_at_lowest, bit_at-lt}
use Rattle.std.proofs.lemmas.Nat.Bits.{bit_at_above, bit_at-trailing_zeros, same_from_bits}
use Rattle.std.proofs.lemmas.List.FromFn.{length-map-range_with_len, get_or-map-range_with_len}
use Rattle.std.proofs.iter.runs.Sources.{from_front, as_is}
use Rattle.std.proofs.lemmas.Iterator.{YieldsList}
use Rattle.std.proofs.lemmas.Iterator.Consumers.{YieldsList-from_first, YieldsList-turn, YieldsList-end}
use Rattle.std.specs.Iterator.{YieldsFirst, Yields}
use Rattle.std.specs.Iterator.Runs.{YieldsInOrder}
use Rattle.std.specs.Int.{bit_at, trailing_zeros}
use Rattle.std.specs.List.{range_with_len}
use Rattle.std.proofs.Math.Nat.{pow-suc, mul_comm, pow-le-pow_right}
use mir.Syntax.{w64}
use Rattle.definitions.specs.Coalitions.{has_player}
use Rattle.coalitions.specs.GrayOrder.{gray_mask, gray_step, steps_from, gray_steps, IsFlip, IsOnce}
use Rattle.coalitions.specs.declared.gray.GrayStep.{GrayStep}
use Rattle.definitions.proofs.Cases.{less_same_or_greater, next_or_last, below_or_above}

-- ---- the bits of a step's coalition

bit_at-gray : (k i : ℕ) → bit_at (gray_mask k) i ≡ (bit_at k i + bit_at k (suc i)) % 2
bit_at-gray k i = bit_at_xor k (k / 2) i ∙ ap (λ (b : ℕ). (bit_at k i + b) % 2) (sym (bit_at-suc k i))

pub gray_fits : (n k : ℕ) → k < 2 ^ n → gray_mask k < 2 ^ n
gray_fits n k h = xor_lt n k (k / 2) h (omega arith)

-- ---- one bit changes

-- the number before: below its lowest bit ones, there 0, and above the same
record IsBefore (k t : ℕ) : Type 0 where
  low : (j : ℕ) → j < t → bit_at (k - 1) j ≡ 1
  here : bit_at (k - 1) t ≡ 0
  high : (j : ℕ) → t < j → bit_at (k - 1) j ≡ bit_at k j

before : (t k : ℕ) → bit_at k t ≡ 1 → ((j : ℕ) → j < t → bit_at k j ≡ 0) → IsBefore k t
before zero k one zeros =
    let odd : k % 2 ≡ 1 = sym (bit_at_lowest k) ∙ one in
    let half : (k - 1) / 2 ≡ k / 2 = omega arith in
    record {
      low = λ j lt. absurd (omega arith);
      here = bit_at_lowest (k - 1) ∙ (omega arith);
      high =
          elim [
            | zero ↦ λ lt. absurd (omega arith)
            | suc j ↦ λ lt. bit_at-suc (k - 1) j ∙ ap (λ (m : ℕ). bit_at m j) half ∙ sym (bit_at-suc k j)
          ];
    }
before (suc t) k one zeros =
    let even : k % 2 ≡ 0 = sym (bit_at_lowest k) ∙ zeros 0 (omega arith) in
    let some : k / 2 ≡ 0 → ⊥ = λ e. zero_has_no_bit (k / 2) t (sym (bit_at-suc k t) ∙ one) e in
    let half : (k - 1) / 2 ≡ k / 2 - 1 = omega (arith, some) in
    let odd : (k - 1) % 2 ≡ 1 = omega (arith, some) in
    let ih =
    before t (k / 2) (sym (bit_at-suc k t) ∙ one)
    (λ j lt. sym (bit_at-suc k j) ∙ zeros (suc j) (omega arith)) in
    record {
      low =
          elim [
            | zero ↦ λ lt. bit_at_lowest (k - 1) ∙ odd
            | suc j ↦ λ lt. bit_at-suc (k - 1) j ∙ ap (λ (m : ℕ). bit_at m j) half ∙ ih.low j (omega arith)
          ];
      here = bit_at-suc (k - 1) t ∙ ap (λ (m : ℕ). bit_at m t) half ∙ ih.here;
      high =
          elim [
            | zero ↦ λ lt. absurd (omega arith)
            | suc j ↦
                λ lt. bit_at-suc (k - 1) j ∙ ap (λ (m : ℕ). bit_at m j) half ∙ ih.high j (omega arith)
                ∙ sym (bit_at-suc k j)
          ];
    }
  where
    zero_has_no_bit : (m i : ℕ) → bit_at m i ≡ 1 → m ≡ 0 → ⊥
    zero_has_no_bit m i one e =
        let fits : m < 2 ^ 0 = omega arith in
        let z = bit_at_above m 0 i fits (omega arith) in
        omega (arith, one, z)

changed_bit : (k t : ℕ) → bit_at k t ≡ 1 → ((j : ℕ) → j < t → bit_at k j ≡ 0) → (j : ℕ)
    → bit_at (gray_mask k) j ≡ (cond (nat_eq j t) (1 - bit_at (gray_mask (k - 1)) j) (bit_at (gray_mask (k - 1)) j))
changed_bit k t one zeros j =
    let b = before t k one zeros in
    let g = bit_at-gray k j in
    let f = bit_at-gray (k - 1) j in
    elim (less_same_or_greater j t) [
      | inl low ↦
          let apart : nat_eq j t ≡ false = grind (arith, nat_tests) in
          let z = zeros j low in
          let o = b.low j low in
          elim (next_or_last j t low) [
            | inl less ↦
                let zz = zeros (suc j) less in
                let oo = b.low (suc j) less in rw apart (omega (arith, g, f, z, o, zz, oo))
            | inr same ↦
                let zz : bit_at k (suc j) ≡ 1 = ap (bit_at k) same ∙ one in
                let oo : bit_at (k - 1) (suc j) ≡ 0 = ap (bit_at (k - 1)) same ∙ b.here in
                rw apart (omega (arith, g, f, z, o, zz, oo))
          ]
      | inr more ↦ elim more [
        | inl same ↦
            let here : nat_eq j t ≡ true = grind (arith, nat_tests) in
            let z : bit_at k j ≡ 1 = ap (bit_at k) same ∙ one in
            let o : bit_at (k - 1) j ≡ 0 = ap (bit_at (k - 1)) same ∙ b.here in
            let next = b.high (suc j) (omega arith) in
            let small = bit_at-lt k (suc j) in
            rw here (omega (arith, g, f, z, o, next, small))
        | inr high ↦
            let apart : nat_eq j t ≡ false = grind (arith, nat_tests) in
            let z = b.high j high in
            let next = b.high (suc j) (omega arith) in
            rw apart (omega (arith, g, f, z, next))
      ]
    ]

flipped_player : (k t j : ℕ)
    → bit_at (gray_mask k) j ≡ (cond (nat_eq j t) (1 - bit_at (gray_mask (k - 1)) j) (bit_at (gray_mask (k - 1)) j))
    → has_player (gray_mask k) j
    ≡ (cond (nat_eq j t) (not (has_player (gray_mask (k - 1)) j)) (has_player (gray_mask (k - 1)) j))
flipped_player k t j h =
    pick (nat_eq j t) (bit_at (gray_mask k) j) (bit_at (gray_mask (k - 1)) j) (bit_at-lt (gray_mask (k - 1)) j) h
  where
    pick : (b : Bool) (x y : ℕ) → y < 2 → x ≡ cond b (1 - y) y → nat_eq x 1 ≡ cond b (not (nat_eq y 1)) (nat_eq y 1)
    pick true x y lt e = grind (arith, nat_tests)
    pick false x y lt e = grind (arith, nat_tests)

pub flips : (n k : ℕ) → n ≤ 16 → k < 2 ^ n → IsFlip n k
flips n k few lt = pick (nat_eq k 0) refl
  where
    fits : k < 2 ^ 64
    fits = below n k few lt
      where
        below : (n k : ℕ) → n ≤ 16 → k < 2 ^ n → k < 2 ^ 64
        below n k few lt =
            let le = pow-le-pow_right {n = 2} (omega arith) {i = n} {j = 64} (omega arith) in omega (arith, le)

    pick : (b : Bool) → nat_eq k 0 ≡ b
        → MatchOption (cond b None (Some (trailing_zeros w64 k))) (k ≡ 0)
        (λ i. (i < n) × (0 < k)
        × ((j : ℕ)
        → has_player (gray_mask k) j
        ≡ (cond (nat_eq j i) (not (has_player (gray_mask (k - 1)) j)) (has_player (gray_mask (k - 1)) j))))
    pick true e = grind (arith, nat_tests)
    pick false e =
        let some : 0 < k = grind (arith, nat_tests) in
        let z = bit_at-trailing_zeros w64 k some fits in
        let t = trailing_zeros w64 k in
        (within t z.1, some, λ j. flipped_player k t j (changed_bit k t z.1 z.2 j))
      where
        within : (t : ℕ) → bit_at k t ≡ 1 → t < n
        within t one =
            elim (below_or_above t n)
            [ inl less ↦ less | inr more ↦ let z = bit_at_above k n t lt more in absurd (omega (arith, one, z)) ]

-- ---- each coalition once

half : (k : ℕ) → gray_mask k / 2 ≡ gray_mask (k / 2)
half k =
    same_from_bits (gray_mask k / 2) (gray_mask (k / 2))
    (λ i. sym (bit_at-suc (gray_mask k) i) ∙ bit_at-gray k (suc i) ∙ both (bit_at-suc k i) (bit_at-suc k (suc i))
    ∙ sym (bit_at-gray (k / 2) i))
  where
    both : {a b c d : ℕ} → a ≡ c → b ≡ d → (a + b) % 2 ≡ (c + d) % 2
    both e f = rw (e, f) refl

lowest : (k : ℕ) → gray_mask k % 2 ≡ (k + k / 2) % 2
lowest k =
    let a = bit_at_lowest (gray_mask k) in
    let b = bit_at-gray k 0 in
    let c = bit_at_lowest k in
    let d = bit_at-suc k 0 in
    let e = bit_at_lowest (k / 2) in
    omega (arith, a, b, c, d, e)

one_step : (w j k : ℕ) → j ≤ w → k ≤ w → gray_mask j ≡ gray_mask k → j ≡ k
one_step zero j k hj hk e = omega arith
one_step (suc w) j k hj hk e =
    let halves : gray_mask (j / 2) ≡ gray_mask (k / 2) = sym (half j) ∙ ap (λ (m : ℕ). m / 2) e ∙ half k in
    let same = one_step w (j / 2) (k / 2) (omega arith) (omega arith) halves in
    let low : (j + j / 2) % 2 ≡ (k + k / 2) % 2 = sym (lowest j) ∙ ap (λ (m : ℕ). m % 2) e ∙ lowest k in
    omega (arith, same, low)

record HasStep (n s : ℕ) : Type 0 where
  step : ℕ
  within : step < 2 ^ n
  is : gray_mask step ≡ s

has_step : (n s : ℕ) → s < 2 ^ n → HasStep n s
has_step zero s h =
    let fits = gray_fits 0 0 (omega arith) in
    record { step = 0; within = omega arith; is = omega (arith, fits) }
has_step (suc n) s h =
    let p : 2 ^ suc n ≡ 2 * 2 ^ n = pow-suc 2 n ∙ mul_comm (2 ^ n) 2 in
    let ih = has_step n (s / 2) (omega arith) in
    let k = 2 * ih.step + (ih.step + s) % 2 in
    let halves : k / 2 ≡ ih.step = omega arith in
    let top : gray_mask k / 2 ≡ s / 2 = half k ∙ ap gray_mask halves ∙ ih.is in
    let low : gray_mask k % 2 ≡ s % 2 = lowest k ∙ (omega (arith, halves)) in
    let lt = ih.within in
    record { step = k; within = omega (arith, lt, p); is = omega (arith, top, low) }

pub once : (n s : ℕ) → s < 2 ^ n → IsOnce n s
once n s h =
    let f = has_step n s h in
    (f.step, f.within, f.is, λ j e. one_step (j + f.step) j f.step (omega arith) (omega arith) (e ∙ sym f.is))

-- ---- the list of steps

pub steps_next : (n k : ℕ) → k < 2 ^ n → steps_from n k ≡ gray_step k ∷ steps_from n (k + 1)
steps_next n k h =
    let e : 2 ^ n - k ≡ suc (2 ^ n - (k + 1)) = omega arith in
    ap (λ (m : ℕ). map gray_step (range_with_len k m)) e

-- a call of the iterator, which is seen as the list of steps that are left
abbrev pub Calls : List GrayStep → Option GrayStep → List GrayStep → Type 0
Calls = YieldsFirst (λ rest. rest)

pub steps_run : YieldsInOrder Calls (λ rest. rest)
steps_run p s =
    as_is p p.from (from_front Calls (λ x. x) (λ rest. rest) (λ s t h. ap length h.0) (λ s x t h. h) p s)

gives_all : (n : ℕ) (s : List GrayStep) → s ≡ gray_steps n → YieldsList Calls (λ x. x) s (gray_steps n)
gives_all n s h = YieldsList-from_first (λ x. x) (λ rest. rest) (gray_steps n) h

-- in a loop that has had the steps xs, the next one
pub steps-turn : (n : ℕ) (s xs t : List GrayStep) → s ≡ gray_steps n → Yields Calls s xs t
    → (r : Option GrayStep) (u : List GrayStep) (x : GrayStep) → r ≡ Some x → Calls t r u
    → (x ≡ gray_step (length xs)) × (length xs < 2 ^ n)
steps-turn n s xs t h y r u x is step =
    let turn = YieldsList-turn (gives_all n s h) xs t y r u x is step in
    let count = length-map-range_with_len gray_step 0 (2 ^ n) in
    let lt : length xs < 2 ^ n = omega arith in
    let item = get_or-map-range_with_len gray_step 0 (2 ^ n) (length xs) (length xs) x lt (omega arith) in
    (turn.1 ∙ item, lt)

-- and at its end
pub steps-end : (n : ℕ) (s xs t : List GrayStep) → s ≡ gray_steps n → Yields Calls s xs t
    → (r : Option GrayStep) (u : List GrayStep) → r ≡ None → Calls t r u → length xs ≡ 2 ^ n
steps-end n s xs t h y r u is step =
    let end = YieldsList-end (gives_all n s h) xs t y r u is step in
    omega (arith, length-map-range_with_len gray_step 0 (2 ^ n))

-- a step is left where the number isn't that of all coalitions
pub still_upcoming : (n k : ℕ) → n ≤ 16 → k ≤ 2 ^ n → (k ≡ 1 * 2 ^ n % 2 ^ 64 → ⊥) → k < 2 ^ n
still_upcoming n k few le other =
    let small = pow-le-pow_right {n = 2} (omega arith) {i = n} {j = 16} few in
    let ne : k ≡ 2 ^ n → ⊥ = λ e. other (omega (arith, small, e)) in
    omega (arith, le, ne)
