-- For the private functions of this crate.
-- What multipliers of a stage program say of shares and excesses.
--
--   reached               what a coalition gets, plus the excess of a level times the divisor of the coalition
--   IsReading             shares x and measured excesses e of the levels, over a denominator, that meet every column
--   RowMultipliers        multipliers of the rows of a stage program, over a denominator
--   share_of, excess_of   the multipliers of a player's row and of a level's row
--   nowhere               no coalition is outside
use Rattle.std.specs.Prelude.{◌≡◌, ℕ, ◌+◌, ◌<◌, Bool, false, IsTrue, List, length, ℤ}
use Rattle.std.specs.Prelude.{pos, ◌+ℤ◌, ◌*ℤ◌, ◌≤ℤ◌, slice_index_or}
use Rattle.std.specs.List.{AllByRecursion}
use Rattle.definitions.specs.Sums.{sum_below}
use Rattle.definitions.specs.Coalitions.{singleton, grand_coalition, sum_over}
use Rattle.definitions.specs.Measures.{divisor}
use Rattle.definitions.specs.Certificates.{has_bound}
use Rattle.definitions.specs.declared.Measure.{Measure}
use Rattle.definitions.specs.declared.Family.TheVariants.{Imputations}
use Rattle.separation.specs.Stage.{earlier_of}
use Rattle.nested_programs.specs.Stage.{Stage}

-- what the members of s get, plus the excess of level k times what the measure divides the excess of s by
abbrev pub reached : Measure → ℕ → (ℕ → ℤ) → (ℕ → ℤ) → ℕ → ℕ → ℤ
reached measure n x e s k = sum_over n x s +ℤ e k *ℤ pos (divisor measure s)

pub record IsReading (q : Stage) (outside : ℕ → Bool) (x e : ℕ → ℤ) (den : ℤ) : Type 0 where
  pub positive : pos 1 ≤ℤ den
  pub whole : sum_below q.game.players x ≡ den *ℤ q.game.worth (grand_coalition q.game.players)
  pub settled : AllByRecursion (λ c. den *ℤ q.game.worth c.0 ≡ reached q.measure q.game.players x e c.0 c.1)
      (earlier_of 0 q.front)
  pub single : q.family ≡ Imputations → (i : ℕ) → i < q.game.players → (den *ℤ q.game.worth (singleton i)) ≤ℤ x i
  pub bound : q.family ≡ Imputations → (i : ℕ) → i < q.game.players → IsTrue (has_bound q.front i)
      → x i ≡ den *ℤ q.game.worth (singleton i)
  pub outer : (s : ℕ) → IsTrue (outside s)
      → (den *ℤ q.game.worth s) ≤ℤ reached q.measure q.game.players x e s (length q.front)

pub record RowMultipliers : Type 0 where
  pub num : List ℤ
  pub den : ℤ

abbrev pub share_of : RowMultipliers → ℕ → ℤ
share_of m i = slice_index_or m.num i (pos 0)

abbrev pub excess_of : ℕ → RowMultipliers → ℕ → ℤ
excess_of n m k = slice_index_or m.num (n + k) (pos 0)

abbrev pub nowhere : ℕ → Bool
nowhere s = false
