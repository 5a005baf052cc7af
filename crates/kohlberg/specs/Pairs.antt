-- Pairs of a coalition and its weight, in mask order.
--
--   with_pair               a pair put among pairs
--   placed_behind, placed   pairs put in mask order, one by one from the first
--   AreExactly              the pairs ascend and are those that a fact holds of
use Rattle.std.specs.Prelude.{ℕ, IsTrue, nat_eq, nat_lt, List, [], ◌∷◌, ℤ, if◌then◌else◌}
use Rattle.std.specs.List.{list_any, AllByRecursion}
use Rattle.definitions.specs.Certificates.{Ascends}

-- a pair put in front of the first with a greater mask
abbrev pub with_pair : ℕ → ℤ → List (ℕ × ℤ) → List (ℕ × ℤ)
with_pair s w [] = (s, w) ∷ []
with_pair s w (p ∷ ps) = if nat_lt s p.0 then (s, w) ∷ (p ∷ ps) else p ∷ with_pair s w ps

-- pairs put in mask order, one by one from the first
abbrev pub placed_behind : List (ℕ × ℤ) → List (ℕ × ℤ) → List (ℕ × ℤ)
placed_behind ps [] = ps
placed_behind ps (q ∷ qs) = placed_behind (with_pair q.0 q.1 ps) qs

abbrev pub placed : List (ℕ × ℤ) → List (ℕ × ℤ)
placed qs = placed_behind [] qs

-- the keys ascend, each pair is one that P holds of, and each key that P holds of stands among them
pub record AreExactly (P : ℕ → ℤ → Type 0) (ps : List (ℕ × ℤ)) : Type 0 where
  pub ascend : Ascends 0 ps
  pub each : AllByRecursion (λ p. P p.0 p.1) ps
  pub all : (s : ℕ) (w : ℤ) → P s w → IsTrue (list_any (λ p. nat_eq p.0 s) ps)
