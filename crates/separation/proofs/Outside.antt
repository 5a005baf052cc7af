-- The coalitions outside, by marks.
use Rattle.std.proofs.Common.{◌≡◌, ◌↔◌, ℕ, ◌+◌, ◌-◌, ◌<◌, ◌≤◌, ◌^◌, Bool, IsTrue, List}
use Rattle.std.proofs.Common.{[], ◌∷◌, ◌++◌, length-append, append_assoc, refl, sym, ap, ◌∙◌, inl}
use Rattle.std.proofs.Common.{inr, arith, Option, Some, None}
use Rattle.std.proofs.lemmas.Bool.{false≢true}
use Rattle.std.proofs.lemmas.List.{get_or-append_right, get_or_append_left, append-nil}
use Rattle.std.specs.Option.{is_some}
use Rattle.definitions.specs.Coalitions.{grand_coalition}
use Rattle.definitions.specs.Games.{Game}
use Rattle.definitions.specs.Certificates.{Level, InSpan, IsOutside}
use Rattle.definitions.specs.declared.Mode.TheVariants.{Span}
use Rattle.spans.specs.Span.{IsKept}
use Rattle.spans.specs.Outside.{is_marked}
use Rattle.kohlberg.specs.Marking.{IsMarking}
use Rattle.separation.specs.Kept.{column_at}
use Rattle.separation.specs.Same.{IsSpanOf}
use Rattle.separation.specs.Making.{IsOuter, AreOuter, EndsOuter}
use Rattle.separation.specs.declared.column.Column.{Column}
use Rattle.separation.proofs.Slots.{past_at}
use Rattle.definitions.proofs.Cases.{less_or_last_of, below_or_above}

-- of the proper coalitions, those that a span doesn't hold
pub IsMarking-of : (n : ℕ) (kept : List ℕ) (levels : List Level) (olds marks : List ℕ) → IsSpanOf n kept levels
    → ((s : ℕ) → IsTrue (is_marked olds s) ↔ ((0 < s) × (s < grand_coalition n)))
    → ((s : ℕ) → IsTrue (is_marked marks s) ↔ (IsTrue (is_marked olds s) × ¬ InSpan n (IsKept kept) s))
    → IsMarking n levels marks
IsMarking-of n kept levels olds marks h proper tests s = (
  λ e. let a = (tests s).0 e in let b = (proper s).0 a.0 in (b.0, b.1, λ q. a.1 (h.outside s (within s b.1) q)),
  λ o. (tests s).1 ((proper s).1 (o.0, o.1), λ q. o.2 (h.inside s (within s o.1) q)),
)
  where
    within : (t : ℕ) → t < grand_coalition n → t < 2 ^ n
    within t lt = omega (arith, lt)

-- ---- one more coalition

pub EndsOuter-none : (g : Game) (front : List Level) (columns : List (Option Column))
    → EndsOuter g front 0 columns columns
EndsOuter-none g front columns = record {
  outers = [];
  are = record { count = refl; outer = λ s lt. absurd (omega arith) };
  longer_is = sym (append-nil columns);
}

pub EndsOuter-push : (g : Game) (front : List Level) (n : ℕ) (columns ys zs : List (Option Column))
    (o : Option Column) → EndsOuter g front n columns ys → IsOuter g front n o → zs ≡ ys ++ o ∷ []
    → EndsOuter g front (n + 1) columns zs
EndsOuter-push g front n columns ys zs o h outer e = record {
  outers = h.outers ++ o ∷ [];
  are = record {
    count = length-append h.outers (o ∷ []) ∙ (let long = h.are.count in omega (arith, long));
    outer = λ s lt. elim (less_or_last_of s n lt) [
      | inl less ↦
          let long = h.are.count in
          rw (get_or_append_left h.outers (o ∷ []) None s (omega (arith, long, less))) (h.are.outer s less)
      | inr same ↦
          let d : s - n ≡ 0 = omega (arith, same) in
          let at : column_at (h.outers ++ o ∷ []) s ≡ o =
          get_or-append_right h.outers (o ∷ []) n s None h.are.count (omega (arith, same))
          ∙ ap (column_at (o ∷ [])) d in
          rw at (rw same outer)
    ];
  };
  longer_is = cc (h.longer_is, append_assoc columns h.outers (o ∷ []));
}

-- the test that passes at the coalitions that have a column
abbrev pub has_column : List (Option Column) → ℕ → Bool
has_column outers s = is_some (column_at outers s)

decides_at : (g : Game) (front : List Level) (s : ℕ) (o : Option Column) → IsOuter g front s o
    → IsTrue (is_some o) ↔ IsOutside Span g.players front s
decides_at g front s None h = (λ e. absurd (false≢true e), λ out. absurd (h out))
decides_at g front s (Some c) h = (λ e. h.0, λ out. refl)

pub decides : (g : Game) (front : List Level) (outers : List (Option Column))
    → AreOuter g front (2 ^ g.players) outers → (s : ℕ)
    → IsTrue (has_column outers s) ↔ IsOutside Span g.players front s
decides g front outers h s = elim (below_or_above s (2 ^ g.players)) [
  | inl lt ↦ decides_at g front s (column_at outers s) (h.outer s lt)
  | inr le ↦
      let long = h.count in
      rw (past_at outers s (omega (arith, long, le)))
      (λ e. absurd (false≢true e), λ out. absurd (none_past le out.1))
]
  where
    none_past : 2 ^ g.players ≤ s → s < grand_coalition g.players → ⊥
    none_past le lt = omega arith
