-- A span that was extended, and spans of what levels fix.
--
--   Extends         a span that was extended by what was added
--   IsPaired        t is a coalition of the pairs
--   IsBoundVector   a player alone whose bound has a weight of at least 1 among the pairs
--   IsLevelVector   a coalition of levels, or a player alone whose bound has such a weight there
--   SpansFixed      coalitions span exactly what levels fix
--   IsOf            the coalitions and players of a level are of n players
use Rattle.std.specs.Prelude.{◌≡◌, ◌⊎◌, ℕ, ◌^◌, ◌<◌, ◌&&◌, IsTrue, nat_eq, List, ◌++◌}
use Rattle.std.specs.Prelude.{ℤ, pos, int_le}
use Rattle.std.specs.List.{list_any, AllByRecursion}
use Rattle.definitions.specs.Coalitions.{singleton}
use Rattle.definitions.specs.Certificates.{Level, InSpan, IsFixedVector, is_listed, has_bound}
use Rattle.spans.specs.Span.{IsKept}

-- the new coalitions span what the old ones do and what was added, and are the old ones and then some that were added
pub record Extends (n : ℕ) (old new : List ℕ) (Added : ℕ → Type 0) : Type 0 where
  pub more : List ℕ
  pub longer : new ≡ old ++ more
  pub still : (t : ℕ) → InSpan n (IsKept old) t → InSpan n (IsKept new) t
  pub added : (t : ℕ) → Added t → InSpan n (IsKept new) t
  pub only : (t : ℕ) → IsKept new t → IsKept old t ⊎ Added t

abbrev pub IsPaired : List (ℕ × ℤ) → ℕ → Type 0
IsPaired ps t = IsTrue (list_any (λ c. nat_eq c.0 t) ps)

-- player i has a weight of at least 1, and t is i alone
abbrev pub IsBoundVector : ℕ → List (ℕ × ℤ) → ℕ → Type 0
IsBoundVector n ps t =
    (i : ℕ) × (i < n) × (t ≡ singleton i) × IsTrue (list_any (λ b. nat_eq b.0 i && int_le (pos 1) b.1) ps)

-- t is a coalition of levels, or a player alone that has a weight of at least 1 there
abbrev pub IsLevelVector : ℕ → List Level → ℕ → Type 0
IsLevelVector n levels t =
    IsTrue (is_listed levels t) ⊎ ((i : ℕ) × (i < n) × (t ≡ singleton i) × IsTrue (has_bound levels i))

pub record SpansFixed (n : ℕ) (kept : List ℕ) (levels : List Level) : Type 0 where
  pub inside : (s : ℕ) → InSpan n (IsKept kept) s → InSpan n (IsFixedVector n levels) s
  pub outside : (s : ℕ) → InSpan n (IsFixedVector n levels) s → InSpan n (IsKept kept) s

pub record IsOf (n : ℕ) (l : Level) : Type 0 where
  pub coalitions : AllByRecursion (λ c. c.0 < 2 ^ n) l.coalitions
  pub bounds : AllByRecursion (λ b. b.0 < n) l.bounds
