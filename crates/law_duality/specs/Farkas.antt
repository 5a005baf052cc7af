-- Linear inequalities with integer coefficients, any number of them in any number of unknowns (Farkas 1902).
--
--   MeetsAll      numbers over a denominator that meet each inequality
--   Contradicts   factors, each at least 0, that make of the inequalities one that says that 0 is positive
--   Farkas        exactly one of the two
use Rattle.std.specs.Prelude.{◌≡◌, ◌⊎◌, ℕ, ◌<◌, ℤ, pos, ◌*ℤ◌, ◌<ℤ◌, ◌≤ℤ◌}
use Rattle.definitions.specs.Sums.{sum_below}

-- m inequalities in n unknowns: the sum of a s i times the unknown i is at least b s. The numbers x over q meet each
abbrev pub MeetsAll : ℕ → ℕ → (ℕ → ℕ → ℤ) → (ℕ → ℤ) → (ℕ → ℤ) → ℤ → Type 0
MeetsAll m n a b x q = (pos 1 ≤ℤ q) × ((s : ℕ) → s < m → (q *ℤ b s) ≤ℤ sum_below n (λ i. a s i *ℤ x i))

-- the inequalities times these factors add to one with no unknown, whose right side is positive
abbrev pub Contradicts : ℕ → ℕ → (ℕ → ℕ → ℤ) → (ℕ → ℤ) → (ℕ → ℤ) → Type 0
Contradicts m n a b w =
    ((s : ℕ) → s < m → pos 0 ≤ℤ w s)
    × ((i : ℕ) → i < n → sum_below m (λ s. w s *ℤ a s i) ≡ pos 0)
    × (pos 0 <ℤ sum_below m (λ s. w s *ℤ b s))

-- fractions meet all and no factors contradict, or factors contradict and no fractions meet all
abbrev pub Farkas : Type 0
Farkas =
    (m n : ℕ) (a : ℕ → ℕ → ℤ) (b : ℕ → ℤ) →
    ((x : ℕ → ℤ) × (q : ℤ) × MeetsAll m n a b x q × ((w : ℕ → ℤ) → ¬ Contradicts m n a b w))
    ⊎ ((w : ℕ → ℤ) × Contradicts m n a b w × ((x : ℕ → ℤ) (q : ℤ) → ¬ MeetsAll m n a b x q))
