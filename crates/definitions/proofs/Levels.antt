-- The form of levels: how many keys ascend below a bound, and that a player is free or fixed.
use Rattle.std.proofs.Common.{◌≡◌, ◌⊎◌, ℕ, ◌+◌, ◌-◌, ◌<◌, ◌≤◌, Bool, true, false}
use Rattle.std.proofs.Common.{not, List, [], ◌∷◌, length, ℤ}
use Rattle.std.proofs.Common.{refl, inl, inr, arith}
use Rattle.std.specs.List.{AllByRecursion}
use Rattle.definitions.specs.Certificates.{Level, Ascends, is_fixed, is_free}

-- no more keys than numbers from low on
pub Ascends-few : (low n : ℕ) (ps : List (ℕ × ℤ)) → Ascends low ps → AllByRecursion (λ p. p.0 < n) ps
    → length ps ≤ n - low
Ascends-few low n [] h k = omega arith
Ascends-few low n (p ∷ ps) h k =
    let rest = Ascends-few (p.0 + 1) n ps h.1 k.1 in
    let first : low ≤ p.0 = h.0 in
    let inside : p.0 < n = k.0 in
    omega arith

pub free_or_fixed : (n : ℕ) (front : List Level) (i : ℕ) → (is_free n front i ≡ true) ⊎ (is_fixed n front i ≡ true)
free_or_fixed n front i = by_test (is_fixed n front i)
  where
    by_test : (b : Bool) → (not b ≡ true) ⊎ (b ≡ true)
    by_test true = inr refl
    by_test false = inl refl
