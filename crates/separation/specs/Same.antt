-- When programs are the same, and when one is that of a stage.
--
--   IsSame              the same rows, right sides and columns, with the same entries and costs
--   IsSpanOf            coalitions span exactly what levels fix
--   IsStage             the stage program behind levels, whose coalitions outside are those of span mode
use Rattle.std.specs.Prelude.{◌≡◌, ◌↔◌, ℕ, ◌<◌, ◌^◌, Bool, IsTrue, List}
use Rattle.definitions.specs.Games.{Game}
use Rattle.definitions.specs.Certificates.{Level, InSpan, IsFixedVector, IsOutside}
use Rattle.definitions.specs.Programs.{Program}
use Rattle.definitions.specs.declared.Family.{Family}
use Rattle.definitions.specs.declared.Measure.{Measure}
use Rattle.definitions.specs.declared.Mode.TheVariants.{Span}
use Rattle.spans.specs.Span.{IsKept}
use Rattle.separation.specs.Stage.{stage_program}

-- the rows, right sides and columns of q, and at each of its columns the entries and the cost of q
pub record IsSame (p q : Program) : Type 0 where
  pub rows : p.rows ≡ q.rows
  pub right : (r : ℕ) → r < q.rows → p.right r ≡ q.right r
  pub columns : (id : ℕ) → p.is_column id ≡ q.is_column id
  pub entry : (id r : ℕ) → IsTrue (q.is_column id) → r < q.rows → p.entry id r ≡ q.entry id r
  pub cost : (id : ℕ) → IsTrue (q.is_column id) → p.cost id ≡ q.cost id

-- kept coalitions of n players span exactly what levels fix
pub record IsSpanOf (n : ℕ) (kept : List ℕ) (levels : List Level) : Type 0 where
  pub inside : (s : ℕ) → s < 2 ^ n → InSpan n (IsKept kept) s → InSpan n (IsFixedVector n levels) s
  pub outside : (s : ℕ) → s < 2 ^ n → InSpan n (IsFixedVector n levels) s → InSpan n (IsKept kept) s

-- the stage program behind the levels in front, by a test that passes exactly at the coalitions outside
pub record IsStage (family : Family) (measure : Measure) (g : Game) (front : List Level) (p : Program) : Type 0
  where
    pub outside : ℕ → Bool
    pub decides : (s : ℕ) → IsTrue (outside s) ↔ IsOutside Span g.players front s
    pub same : IsSame p (stage_program family measure g front outside)
