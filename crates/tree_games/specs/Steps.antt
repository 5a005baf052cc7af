-- Prim's steps.
--
--   IsPrimFrom             each pair has a least entry of those that lead from a connected point to a waiting one
--   near                   the least entry from a connected point to a point
--   closest                the first point that passes a test and whose number is least
--   prim_cost              the cost of at most k of Prim's steps
--   nearest                the first waiting point whose entry from a point is least
--   reach                  that entry
--   next_end               the first connected point of least reach
use Rattle.std.specs.Prelude.{◌≡◌, ℕ, zero, suc, ◌+◌, ◌≤◌, Bool, false, not, ◌&&◌}
use Rattle.std.specs.Prelude.{◌||◌}
use Rattle.std.specs.Prelude.{IsTrue, List, [], ◌∷◌, nat_lt, min, if◌then◌else◌}
use Rattle.definitions.specs.Classes.{Matrix, entry, joined, removed}

abbrev pub IsPrimFrom : Matrix → (ℕ → Bool) → (ℕ → Bool) → List (ℕ × ℕ) → Type 0
IsPrimFrom matrix connected waiting [] = (j : ℕ) → waiting j ≡ false
IsPrimFrom matrix connected waiting (p ∷ plan) =
    IsTrue (connected p.0)
    × IsTrue (waiting p.1)
    × ((c t : ℕ) → IsTrue (connected c) → IsTrue (waiting t) → entry matrix p.0 p.1 ≤ entry matrix c t)
    × IsPrimFrom matrix (joined connected p.1) (removed waiting p.1) plan

-- the least entry from a connected point below the bound to t, where the source is connected
abbrev pub near : Matrix → (ℕ → Bool) → ℕ → ℕ → ℕ
near matrix connected zero t = entry matrix 0 t
near matrix connected (suc b) t =
    if connected b then min (near matrix connected b t) (entry matrix b t) else near matrix connected b t

-- the first point below the bound that passes the test and whose number is least, 0 if none passes
abbrev pub closest : (ℕ → ℕ) → (ℕ → Bool) → ℕ → ℕ
closest number test zero = 0
closest number test (suc t) =
    if test t && (not (test (closest number test t)) || nat_lt (number t) (number (closest number test t))) then t
    else closest number test t

abbrev pub prim_cost : Matrix → ℕ → ℕ → (ℕ → Bool) → (ℕ → Bool) → ℕ
prim_cost matrix points zero connected waiting = 0
prim_cost matrix points (suc k) connected waiting =
    if waiting (closest (near matrix connected points) waiting points)
    then near matrix connected points (closest (near matrix connected points) waiting points)
    + prim_cost matrix points k (joined connected (closest (near matrix connected points) waiting points))
    (removed waiting (closest (near matrix connected points) waiting points))
    else 0

-- ---- the least pair by entry, end and point

-- the first waiting point below the bound whose entry from b is least
abbrev pub nearest : Matrix → ℕ → (ℕ → Bool) → ℕ → ℕ
nearest matrix points waiting b = closest (entry matrix b) waiting points

abbrev pub reach : Matrix → ℕ → (ℕ → Bool) → ℕ → ℕ
reach matrix points waiting b = entry matrix b (nearest matrix points waiting b)

-- the first connected point below the bound from which the nearest waiting one is nearest
abbrev pub next_end : Matrix → ℕ → (ℕ → Bool) → (ℕ → Bool) → ℕ
next_end matrix points connected waiting = closest (reach matrix points waiting) connected points
