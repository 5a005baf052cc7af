-- Games in which a coalition is worth something exactly when it holds all of a given one: no lesser mask is worth
-- anything.
use Rattle.std.proofs.Common.{◌≡◌, ℕ, zero, suc, ◌+◌, ◌-◌, ◌^◌, ◌<◌, ◌≤◌, Bool, true, false, cond, ◌&&◌, not, ℤ, pos}
use Rattle.std.proofs.Common.{◌-ℤ◌, ◌≤ℤ◌, refl, ap, inl, inr, arith}
use Rattle.std.proofs.lemmas.Int.{ints}
use Rattle.std.proofs.Math.Nat.{pow-suc}
use Rattle.definitions.proofs.Cases.{below_or_above, less_or_last, same_or_other, true_or_false}
use Rattle.definitions.proofs.Halves.{has_player-last, has_player-upper, has_player-lower}
use Rattle.definitions.proofs.Members.{sum_below-same}
use Rattle.definitions.proofs.Parts.{has_player-more_other, sum_below-le}
use Rattle.definitions.proofs.Ring.{linear}
use Rattle.definitions.proofs.Splits.{some_below-same, some_below-none, some_below-at, some_below-false}
use Rattle.definitions.specs.Coalitions.{has_player, sum_over, some_below}

-- some player of k isn't in s
abbrev pub misses : ℕ → ℕ → ℕ → Bool
misses n k s = some_below n (λ i. has_player k i && not (has_player s i))

-- a coalition is worth c where it holds all of k
abbrev pub carried : ℕ → ℕ → ℤ → ℕ → ℤ
carried n k c s = cond (misses n k s) (pos 0) c

pub misses-self : (n k : ℕ) → misses n k k ≡ false
misses-self n k = some_below-none n (λ i. has_player k i && not (has_player k i)) (λ i lt. both (has_player k i))
  where
    both : (b : Bool) → (b && not b) ≡ false
    both b = grind arith

pub misses-member : (n k s j : ℕ) → j < n → has_player k j ≡ true → has_player s j ≡ false → misses n k s ≡ true
misses-member n k s j lt has out =
    some_below-at n j (λ i. has_player k i && not (has_player s i)) lt (rw (has, out) refl)

pub misses-outside : (n k s i : ℕ) → has_player k i ≡ false → has_player s i ≡ false
    → misses n k (s + 2 ^ i) ≡ misses n k s
misses-outside n k s i lacks out =
    some_below-same n (λ j. has_player k j && not (has_player (s + 2 ^ i) j))
    (λ j. has_player k j && not (has_player s j)) (λ j lt. at j)
  where
    at : (j : ℕ) → (has_player k j && not (has_player (s + 2 ^ i) j)) ≡ (has_player k j && not (has_player s j))
    at j = elim (same_or_other j i) [
      | inl same ↦ rw (same, lacks) refl
      | inr other ↦ ap (λ (b : Bool). has_player k j && not b) (has_player-more_other s i j out other)
    ]

-- ---- a coalition that holds all of k is no lesser mask

-- a mask is the sum of the powers of its members
value : (n s : ℕ) → s < 2 ^ n → sum_over n (λ i. pos (2 ^ i)) s ≡ pos s
value zero s lt = omega (arith, ints)
value (suc n) s lt = elim (below_or_above s (2 ^ n)) [
  | inl less ↦ omega
      (arith, linear, value n s less, ap (λ (b : Bool). cond b (pos (2 ^ n)) (pos 0)) (has_player-last n s less))
  | inr more ↦
      let there : 2 ^ n + (s - 2 ^ n) ≡ s = omega arith in
      let twice = pow-suc 2 n in
      let e = upper n (s - 2 ^ n) (omega (arith, twice)) (value n (s - 2 ^ n) (omega (arith, twice))) in
      rw there at e
]
  where
    upper : (n r : ℕ) → r < 2 ^ n → sum_over n (λ i. pos (2 ^ i)) r ≡ pos r
        → sum_over (suc n) (λ i. pos (2 ^ i)) (2 ^ n + r) ≡ pos (2 ^ n + r)
    upper n r h ih =
        let low = sum_below-same n (λ i. cond (has_player (2 ^ n + r) i) (pos (2 ^ i)) (pos 0))
        (λ i. cond (has_player r i) (pos (2 ^ i)) (pos 0))
        (λ i k. ap (λ (b : Bool). cond b (pos (2 ^ i)) (pos 0)) (has_player-lower n r i k)) in
        omega (arith, linear, low, ap (λ (b : Bool). cond b (pos (2 ^ n)) (pos 0)) (has_player-upper n r h), ih)

no_less : (n k s : ℕ) → k < 2 ^ n → s < 2 ^ n → misses n k s ≡ false → k ≤ s
no_less n k s hk hs none =
    let le = sum_below-le n (λ i. cond (has_player k i) (pos (2 ^ i)) (pos 0))
    (λ i. cond (has_player s i) (pos (2 ^ i)) (pos 0))
    (λ i lt. at (has_player k i) (has_player s i) (pos (2 ^ i)) (omega (arith, ints))
    (some_below-false n (λ j. has_player k j && not (has_player s j)) none i lt)) in
    let less : pos k ≤ℤ pos s = omega (arith, linear, le, value n k hk, value n s hs) in
    omega (arith, ints, less)
  where
    at : (b c : Bool) (z : ℤ) → pos 0 ≤ℤ z → (b && not c) ≡ false → cond b z (pos 0) ≤ℤ cond c z (pos 0)
    at b c z h e = grind (arith, linear)

pub misses-less : (n k s : ℕ) → k < 2 ^ n → s < k → misses n k s ≡ true
misses-less n k s h lt = elim (true_or_false (misses n k s)) [
  | inl some ↦ some
  | inr none ↦ absurd (let le = no_less n k s h (omega (arith, h, lt)) none in omega (arith, le, lt))
]

-- without its part at k a game whose worths are 0 below k is 0 there too
pub below_next : (n k : ℕ) (v : ℕ → ℤ) → ((s : ℕ) → s < k → v s ≡ pos 0) → k < 2 ^ n → (s : ℕ) → s < suc k
    → v s -ℤ carried n k (v k) s ≡ pos 0
below_next n k v none small s h = elim (less_or_last s k h) [
  | inl less ↦
      omega (arith, linear, none s less, ap (λ (b : Bool). cond b (pos 0) (v k)) (misses-less n k s small less))
  | inr same ↦
      let inside = ap (λ (b : Bool). cond b (pos 0) (v k)) (misses-self n k) in
      omega (arith, linear, inside, ap v same, ap (carried n k (v k)) same)
]
