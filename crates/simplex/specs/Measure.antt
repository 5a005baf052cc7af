-- For the private functions of this crate.
-- How far the objective can still go up, as one natural number.
use Rattle.std.specs.Prelude.{ℕ, suc, cond, nat_lt, ℤ, pos, List}
use Rattle.determinants.specs.Basis.{dot}
use Rattle.determinants.specs.Matrix.{entry_at, weight_at}
use Rattle.determinants.specs.Measure.{room_left}

-- the first m numbers, and 0 from there on
abbrev pub cut : ℕ → (ℕ → ℤ) → ℕ → ℤ
cut m a j = cond (nat_lt j m) (a j) (pos 0)

-- the costs of the basis times its weights of the right-hand sides and of the reference columns
abbrev pub objective_at : ℕ → List ℤ → List ℤ → ℕ → ℤ
objective_at n costs ts j = dot n (weight_at costs) (λ k. entry_at 32 ts k j)

-- how far the objective over the denominator d can still go up
unfoldable pub objective_room : ℕ → List ℤ → List ℤ → ℤ → ℕ
objective_room n costs ts d = room_left (suc n) (cut (suc n) (objective_at n costs ts)) d
