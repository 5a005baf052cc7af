-- Weights on coalitions, each times an integer.
--
--   scaled_pairs c ps   the pairs with each weight times c
use Rattle.std.proofs.Common.{◌≡◌, ℕ, Bool, true, false, cond, List, [], ◌∷◌, ℤ}
use Rattle.std.proofs.Common.{pos, ◌+ℤ◌, ◌*ℤ◌, sym, arith}
use Rattle.std.specs.List.{AllByRecursion}
use Rattle.definitions.proofs.Ring.{linear, mul-addℤ, mul-zeroℤ}
use Rattle.definitions.specs.Coalitions.{has_player, weight_at}

-- the pairs with each weight times c
abbrev pub scaled_pairs : ℤ → List (ℕ × ℤ) → List (ℕ × ℤ)
scaled_pairs c [] = []
scaled_pairs c (p ∷ ps) = (p.0, c *ℤ p.1) ∷ scaled_pairs c ps

pub weight_at-scaled : (c : ℤ) (ps : List (ℕ × ℤ)) (i : ℕ) → weight_at (scaled_pairs c ps) i ≡ c *ℤ weight_at ps i
weight_at-scaled c [] i = sym (mul-zeroℤ c)
weight_at-scaled c (p ∷ ps) i =
    let ih = weight_at-scaled c ps i in
    with_first (has_player p.0 i) (weight_at (scaled_pairs c ps) i) (weight_at ps i) ih
  where
    with_first : (b : Bool) (u t : ℤ) → u ≡ c *ℤ t
        → cond b (c *ℤ p.1) (pos 0) +ℤ u ≡ c *ℤ (cond b p.1 (pos 0) +ℤ t)
    with_first true u t e = omega (arith, linear, e, mul-addℤ c p.1 t)
    with_first false u t e = omega (arith, linear, e, mul-addℤ c (pos 0) t, mul-zeroℤ c)

pub all_scaled : (P : ℕ → Type 0) (c : ℤ) (ps : List (ℕ × ℤ)) → AllByRecursion (λ p. P p.0) ps
    → AllByRecursion (λ p. P p.0) (scaled_pairs c ps)
all_scaled P c [] h = tt
all_scaled P c (p ∷ ps) h = (h.0, all_scaled P c ps h.1)
