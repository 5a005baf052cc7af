-- Masks of some players, of one player more, and of at most 16.
use Rattle.std.proofs.Common.{◌≡◌, ◌⊎◌, ℕ, ◌+◌, ◌-◌, ◌*◌, ◌%◌, ◌^◌, ◌<◌, ◌≤◌}
use Rattle.std.proofs.Common.{List}
use Rattle.std.proofs.Common.{ℤ, ap, ◌∙◌, inl, inr, add-one, arith}
use Rattle.std.proofs.Math.Nat.{pow-succ', pow-le-pow_right}
use Rattle.std.proofs.Math.Pow.{pow-lt, pow-sub-lt}
use Rattle.std.specs.List.{AllByRecursion}
use Rattle.std.proofs.lemmas.Nat.{one_shl}
use Rattle.definitions.proofs.Alls.{all_weaken}
use Rattle.definitions.proofs.Cases.{below_or_above}
use Rattle.definitions.specs.Coalitions.{singleton, grand_coalition}

pub grand_coalition-within : (n : ℕ) → grand_coalition n < 2 ^ n
grand_coalition-within n = let one : 0 < 1 = omega arith in pow-sub-lt n one

pub proper_or_all : (n s : ℕ) → s < 2 ^ n → (s < grand_coalition n) ⊎ (s ≡ grand_coalition n)
proper_or_all n s h = grind arith

-- a player more doubles the masks: they lack it or have it
pub masks-double : (n : ℕ) → 2 ^ (n + 1) ≡ 2 * 2 ^ n
masks-double n = ap (λ (k : ℕ). 2 ^ k) (add-one n) ∙ pow-succ' 2 n

pub low_or_high : (n s : ℕ) → s < 2 ^ (n + 1) → (s < 2 ^ n) ⊎ ((t : ℕ) × (t < 2 ^ n) × (s ≡ t + 2 ^ n))
low_or_high n s h = elim (below_or_above s (2 ^ n)) [
  | inl low ↦ inl low
  | inr high ↦ let twice = masks-double n in inr (s - 2 ^ n, omega arith, omega arith)
]

pub singleton-within : (n i : ℕ) → i < n → singleton i < 2 ^ n
singleton-within n i h = pow-lt h

pub proper-within : (n : ℕ) (ps : List (ℕ × ℤ)) → AllByRecursion (λ c. (0 < c.0) × (c.0 < grand_coalition n)) ps
    → AllByRecursion (λ c. c.0 < 2 ^ n) ps
proper-within n ps h =
    all_weaken (λ c. (0 < c.0) × (c.0 < grand_coalition n)) (λ c. c.0 < 2 ^ n) ps (λ c e. below (2 ^ n) c.0 e.1) h
  where
    below : (m s : ℕ) → s < m - 1 → s < m
    below m s h = omega arith

pub two_masks : (n : ℕ) → 1 ≤ n → n ≤ 16 → 2 ≤ 1 * 2 ^ n % 2 ^ 64
two_masks n some few =
    let positive : 0 < 2 = omega arith in
    let two : 2 ^ 1 ≤ 2 ^ n = pow-le-pow_right positive some in
    omega (arith, two, one_shl n 64 (omega arith))
