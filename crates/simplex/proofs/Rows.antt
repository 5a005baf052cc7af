-- The rows of a lawful program are few, and their numbers fit.
use Rattle.std.proofs.Common.{◌≡◌, ℕ, ◌+◌, ◌<◌, ◌≤◌, arith}
use mir.Syntax.{w64}
use mir.Val.{Fits}
use Rattle.definitions.specs.Programs.{Program}
use Rattle.simplex.specs.Laws.{IsLawful}

pub few_rows : {players : ℕ} (P : Program) (n : ℕ) → IsLawful players P → n ≡ P.rows → n ≤ 31
few_rows P n l e = rw e l.rows_few

pub within_32 : (n : ℕ) → n ≤ 31 → n ≤ 32
within_32 n h = omega arith

pub place_within_32 : (k n : ℕ) → k < n → n ≤ 31 → k < 32
place_within_32 k n lt h = omega arith

pub next_fits : (n : ℕ) → n ≤ 31 → Fits w64 (n + 1)
next_fits n h = omega arith
