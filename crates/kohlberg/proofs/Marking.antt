-- Marks of what is outside of the span of levels.
use Rattle.std.proofs.Common.{ℕ, ◌<◌, List, IsTrue}
use Rattle.std.specs.Bool.{Decides}
use Rattle.definitions.specs.Coalitions.{grand_coalition}
use Rattle.definitions.specs.Certificates.{Level, InSpan}
use Rattle.spans.specs.Span.{IsKept}
use Rattle.spans.specs.Outside.{is_marked}
use Rattle.kohlberg.specs.Extends.{SpansFixed}
use Rattle.kohlberg.specs.Marking.{IsMarking}

-- of the proper coalitions, those that a span doesn't hold
pub IsMarking-start : (n : ℕ) (kept : List ℕ) (levels : List Level) (olds words : List ℕ) → SpansFixed n kept levels
    → ((s : ℕ) → Decides (is_marked olds s) ((0 < s) × (s < grand_coalition n)))
    → ((s : ℕ) → Decides (is_marked words s) (IsTrue (is_marked olds s) × ¬ InSpan n (IsKept kept) s))
    → IsMarking n levels words
IsMarking-start n kept levels olds words h proper tests s = (
  λ e. let a = (tests s).0 e in let b = (proper s).0 a.0 in (b.0, b.1, λ q. a.1 (h.outside s q)),
  λ o. (tests s).1 ((proper s).1 (o.0, o.1), λ q. o.2 (h.inside s q)),
)

-- of those outside of some levels, those that a span of more levels doesn't hold
pub IsMarking-more : (n : ℕ) (old new : List ℕ) (front levels : List Level) (olds words : List ℕ)
    → SpansFixed n old front → SpansFixed n new levels
    → ((t : ℕ) → InSpan n (IsKept old) t → InSpan n (IsKept new) t) → IsMarking n front olds
    → ((s : ℕ) → Decides (is_marked words s) (IsTrue (is_marked olds s) × ¬ InSpan n (IsKept new) s))
    → IsMarking n levels words
IsMarking-more n old new front levels olds words h k still marks tests s = (
  λ e. let a = (tests s).0 e in let b = (marks s).0 a.0 in (b.0, b.1, λ q. a.1 (k.outside s q)),
  λ o. (tests s).1
      ((marks s).1 (o.0, o.1, λ q. o.2 (k.inside s (still s (h.outside s q)))), λ q. o.2 (k.inside s q)),
)
