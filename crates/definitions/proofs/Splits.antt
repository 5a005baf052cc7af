-- Whether some number below a bound passes a test, or all do, and the coalitions that split a set of players.
--
--   passes_below n test   each number below n passes
use Rattle.std.proofs.Common.{◌≡◌, ℕ, zero, suc, ◌<◌, Bool, true, false, ◌&&◌}
use Rattle.std.proofs.Common.{not, refl, sym, ap, ◌∙◌, inl, inr, arith}
use Rattle.std.proofs.lemmas.Bool.{false≢true}
use Rattle.definitions.proofs.Cases.{less_or_last, or_cases, or_true, neither, and_left, and_right}
use Rattle.definitions.proofs.Members.{has_player-singleton, has_player-singleton_other}
use Rattle.definitions.specs.Coalitions.{has_player, singleton, some_below, splits}

pub some_below-same : (n : ℕ) (p q : ℕ → Bool) → ((i : ℕ) → i < n → p i ≡ q i) → some_below n p ≡ some_below n q
some_below-same zero p q h = refl
some_below-same (suc n) p q h =
    let here = h n (omega arith) in
    let rest = some_below-same n p q (λ i lt. h i (omega arith)) in
    cc

pub some_below-none : (n : ℕ) (p : ℕ → Bool) → ((i : ℕ) → i < n → p i ≡ false) → some_below n p ≡ false
some_below-none zero p h = refl
some_below-none (suc n) p h =
    let here = h n (omega arith) in
    let rest = some_below-none n p (λ i lt. h i (omega arith)) in
    rw (here, rest) refl

pub some_below-at : (n i : ℕ) (test : ℕ → Bool) → i < n → test i ≡ true → some_below n test ≡ true
some_below-at zero i test lt h = absurd (omega arith)
some_below-at (suc n) i test lt h = elim (less_or_last i n lt) [
  | inl less ↦ rw (some_below-at n i test less h) (or_true (test n))
  | inr same ↦ rw (sym same) (rw h refl)
]

pub some_below-true : (n : ℕ) (p : ℕ → Bool) → some_below n p ≡ true → (i : ℕ) × (i < n) × (p i ≡ true)
some_below-true zero p e = absurd (false≢true e)
some_below-true (suc n) p e = elim (or_cases (p n) (some_below n p) e) [
  | inl here ↦ (n, omega arith, here)
  | inr rest ↦ let found = some_below-true n p rest in (found.0, omega (arith, found.1), found.2)
]

pub some_below-false : (n : ℕ) (test : ℕ → Bool) → some_below n test ≡ false → (i : ℕ) → i < n → test i ≡ false
some_below-false zero test e i h = absurd (omega arith)
some_below-false (suc n) test e i h = elim (less_or_last i n h) [
  | inl less ↦ some_below-false n test (neither (test n) (some_below n test) e).1 i less
  | inr same ↦ rw same (neither (test n) (some_below n test) e).0
]

-- each number below n passes
abbrev pub passes_below : ℕ → (ℕ → Bool) → Bool
passes_below zero test = true
passes_below (suc n) test = passes_below n test && test n

pub passes_below-at : (n : ℕ) (test : ℕ → Bool) → passes_below n test ≡ true → (t : ℕ) → t < n → test t ≡ true
passes_below-at zero test h t lt = absurd (omega arith)
passes_below-at (suc n) test h t lt = elim (less_or_last t n lt) [
  | inl less ↦ passes_below-at n test (and_left (passes_below n test) (test n) h) t less
  | inr same ↦ ap test same ∙ and_right (passes_below n test) (test n) h
]

-- of two players of f, the first alone is a coalition that splits f
pub splits-singleton : (n f i j : ℕ) → i < j → j < n → has_player f i ≡ true → has_player f j ≡ true
    → splits n (has_player f) (singleton i) ≡ true
splits-singleton n f i j lt within hi hj =
    let holds =
    some_below-at n i (λ k. has_player f k && has_player (singleton i) k) (omega arith)
    (rw (hi, has_player-singleton i) refl) in
    let lacks =
    some_below-at n j (λ k. has_player f k && not (has_player (singleton i) k)) within
    (rw (hj, has_player-singleton_other i j (λ e. omega arith)) refl) in
    rw (holds, lacks) refl
