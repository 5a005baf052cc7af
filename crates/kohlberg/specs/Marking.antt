-- Marks of the coalitions outside of what levels fix.
use Rattle.std.specs.Prelude.{◌↔◌, ℕ, IsTrue, List}
use Rattle.definitions.specs.Certificates.{Level, IsOutside}
use Rattle.definitions.specs.declared.Mode.TheVariants.{Span}
use Rattle.spans.specs.Outside.{is_marked}

-- the marked coalitions are those outside of what levels fix
abbrev pub IsMarking : ℕ → List Level → List ℕ → Type 0
IsMarking n levels words = (s : ℕ) → (IsTrue (is_marked words s) ↔ IsOutside Span n levels s)
