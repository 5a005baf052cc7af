-- The first levels of a certificate, and the span of what levels fix.
use Rattle.std.proofs.Common.{◌≡◌, ℕ, zero, suc, ◌+◌, ◌≤◌, List, [], ◌∷◌, ◌++◌, length, take, subst, arith}
use Rattle.definitions.specs.Coalitions.{grand_coalition}
use Rattle.definitions.specs.Certificates.{Level, LevelsForm, HasForm}
use Rattle.definitions.specs.declared.Mode.{Mode}
use Rattle.spans.specs.Span.{SpanData}
use Rattle.kohlberg.specs.Extends.{Extends, IsLevelVector}
use Rattle.kohlberg.proofs.SpanScan.{SpansFixed-start, SpansFixed-more}
use Rattle.separation.specs.Same.{IsSpanOf}

first_have_form : (n i : ℕ) (front levels : List Level) → LevelsForm n front levels → LevelsForm n front (take i levels)
first_have_form n zero front [] h = tt
first_have_form n (suc i) front [] h = tt
first_have_form n zero front (l ∷ levels) h = tt
first_have_form n (suc i) front (l ∷ levels) h = (h.0, first_have_form n i (front ++ l ∷ []) levels h.1)

first_are_few : (i : ℕ) (levels : List Level) → length (take i levels) ≤ length levels
first_are_few zero [] = omega arith
first_are_few (suc i) [] = omega arith
first_are_few zero (l ∷ levels) = omega arith
first_are_few (suc i) (l ∷ levels) = (let rest = first_are_few i levels in omega (arith, rest))

pub first_formed : (mode : Mode) (n i : ℕ) (levels : List Level) → HasForm mode n levels
    → HasForm mode n (take i levels)
first_formed mode n i levels h = record {
  players = h.players;
  few = (let few = first_are_few i levels in let all = h.few in omega (arith, few, all));
  each = first_have_form n i [] levels h.each;
}

pub spans_levels : (n : ℕ) (v : SpanData) (new : List ℕ) (levels : List Level)
    → v ≡ record { players = n; kept = grand_coalition n ∷ [] }
    → Extends v.players v.kept new (IsLevelVector v.players levels) → IsSpanOf n new levels
spans_levels n v new levels start extends =
    let more =
    subst (λ (v : SpanData). Extends v.players v.kept new (IsLevelVector v.players levels)) start extends in
    let h = SpansFixed-more n (grand_coalition n ∷ []) new [] levels (SpansFixed-start n) more in
    record { inside = λ s lt q. h.inside s q; outside = λ s lt q. h.outside s q }
