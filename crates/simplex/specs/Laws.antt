-- The laws of a program, by which no step of the simplex leaves 128 bits, and what they say of its minors.
--
--   IsSparse         entries of one sign and of size at most 1, and at most one of them in the level rows
--   IsInBandA        entries of one sign and of size at most 1, and few of them in the level rows
--   sizes            the sum of the sizes of the first n entries
--   IsInBandB        few rows, and columns with a small sum of sizes
--   IsLawful         one of both, few player rows, right-hand sides 0 or 1, and small costs
--   first_columns    the first n columns of a sequence
--   put              the columns with another one at place k
--   AreMinorsSmall   each determinant of columns, units and at most one right-hand side is below 2^58
use Rattle.std.specs.Prelude.{ℕ, zero, suc, ◌+◌, ◌^◌, ◌≤◌, ◌<◌, ◌≡◌, ◌⊎◌, IsTrue}
use Rattle.std.specs.Prelude.{cond}
use Rattle.std.specs.Prelude.{nat_eq, List, [], ◌∷◌, ℤ, pos, negsuc, unsigned_abs}
use Rattle.definitions.specs.Programs.{Program}
use Rattle.determinants.specs.Determinant.{Column, det}
use Rattle.simplex.specs.Program.{right_side, IsOf}

-- all entries 0 or 1, or all 0 or -1, and from row `players` on at most one that isn't 0
pub record IsSparse (players rows : ℕ) (a : ℕ → ℤ) : Type 0 where
  pub sign : ℤ
  pub is_sign : (sign ≡ pos 1) ⊎ (sign ≡ negsuc 0)
  pub entry : (i : ℕ) → i < rows → (a i ≡ pos 0) ⊎ (a i ≡ sign)
  pub one : (i j : ℕ) → players ≤ i → i < j → j < rows → (a i ≡ pos 0) ⊎ (a j ≡ pos 0)

-- at most 15 level rows, in which a column and the right-hand sides have at most one entry
pub record IsInBandA (players : ℕ) (p : Program) : Type 0 where
  pub levels : p.rows ≤ players + 15
  pub columns : (id : ℕ) → IsTrue (p.is_column id) → IsSparse players p.rows (p.entry id)
  pub right : IsSparse players p.rows p.right

abbrev pub sizes : ℕ → (ℕ → ℤ) → ℕ
sizes zero a = 0
sizes (suc n) a = sizes n a + unsigned_abs (a n)

-- at most 15 rows, and columns whose sizes sum to at most 14
pub record IsInBandB (p : Program) : Type 0 where
  pub few : p.rows ≤ 15
  pub columns : (id : ℕ) → IsTrue (p.is_column id) → sizes p.rows (p.entry id) ≤ 14

-- what holds of a program whose first rows are those of so many players
pub record IsLawful (players : ℕ) (p : Program) : Type 0 where
  pub players_few : players ≤ 16
  pub players_within : players ≤ p.rows
  pub rows_few : p.rows ≤ 31
  pub band : IsInBandA players p ⊎ IsInBandB p
  pub rights : (i : ℕ) → i < p.rows → (p.right i ≡ pos 0) ⊎ (p.right i ≡ pos 1)
  pub costs : (id : ℕ) → IsTrue (p.is_column id) → unsigned_abs (p.cost id) < 2 ^ 46

abbrev pub first_columns : ℕ → (ℕ → Column) → List Column
first_columns zero f = []
first_columns (suc n) f = f 0 ∷ first_columns n (λ k. f (suc k))

abbrev pub put : (ℕ → Column) → ℕ → Column → ℕ → Column
put f k s i = cond (nat_eq i k) s (f i)

pub record AreMinorsSmall (p : Program) : Type 0 where
  pub plain : (f : ℕ → Column) → ((k : ℕ) → k < p.rows → IsOf p (f k))
      → unsigned_abs (det p.rows (first_columns p.rows f)) < 2 ^ 58
  pub with_right : (f : ℕ → Column) (k : ℕ) → k < p.rows → ((k : ℕ) → k < p.rows → IsOf p (f k))
      → unsigned_abs (det p.rows (first_columns p.rows (put f k (right_side p)))) < 2 ^ 58
