-- Players alone, inside and outside of a span of what levels fix; and answers of a span, read for other names of
-- the same numbers.
use Rattle.std.proofs.Common.{◌≡◌, ℕ, ◌<◌, Bool, true, false, List, length, sym, subst}
use Rattle.std.proofs.Common.{◌∙◌}
use Rattle.std.specs.Bool.{Decides}
use Rattle.std.proofs.lemmas.Bool.{false≢true}
use Rattle.definitions.specs.Coalitions.{singleton}
use Rattle.definitions.specs.Certificates.{Level, InSpan, IsAllFixed}
use Rattle.definitions.specs.declared.Mode.TheVariants.{Span}
use Rattle.definitions.specs.Failures.{IsLeastUnfixed}
use Rattle.spans.specs.Span.{IsKept}
use Rattle.kohlberg.specs.Extends.{SpansFixed}

pub spanned_first : (n : ℕ) (kept : List ℕ) (levels : List Level) (i : ℕ) → SpansFixed n kept levels → i < n
    → ¬ InSpan n (IsKept kept) (singleton i) → ((j : ℕ) → j < i → InSpan n (IsKept kept) (singleton j))
    → (¬ IsAllFixed Span n levels) × IsLeastUnfixed Span n levels i
spanned_first n kept levels i h lt out before = (
  λ all. out (h.outside (singleton i) (all i lt)),
  (lt, λ q. out (h.outside (singleton i) q), λ j less. h.inside (singleton j) (before j less)),
)

pub spanned_all : (n : ℕ) (kept : List ℕ) (levels : List Level) → SpansFixed n kept levels
    → ((j : ℕ) → j < n → InSpan n (IsKept kept) (singleton j)) → IsAllFixed Span n levels
spanned_all n kept levels h all = λ i lt. h.inside (singleton i) (all i lt)

pub inside_from : (b : Bool) (m n s t : ℕ) (kept : List ℕ) → m ≡ n → s ≡ t → Decides b (InSpan m (IsKept kept) s)
    → b ≡ true → InSpan n (IsKept kept) t
inside_from b m n s t kept e f h k =
    subst (λ (q : ℕ). InSpan q (IsKept kept) t) e (subst (λ (u : ℕ). InSpan m (IsKept kept) u) f (h.0 k))

pub room_of : (b : Bool) (m n : ℕ) (kept : List ℕ) → m ≡ n → (b ≡ false → length kept < m) → b ≡ false
    → length kept < n
room_of b m n kept e h k = subst (λ (q : ℕ). length kept < q) e (h k)

pub outside_from : (b : Bool) (m n s t : ℕ) (kept : List ℕ) → m ≡ n → s ≡ t → Decides b (InSpan m (IsKept kept) s)
    → b ≡ false → ¬ InSpan n (IsKept kept) t
outside_from b m n s t kept e f h k q =
    false≢true
    (sym k
    ∙ h.1
    (subst (λ (p : ℕ). InSpan p (IsKept kept) s) (sym e)
    (subst (λ (u : ℕ). InSpan n (IsKept kept) u) (sym f) q)))
