-- The keys of pairs to which one with a net number is added, unless that is 0.
use Rattle.std.proofs.Common.{◌≢◌, ℕ, ◌+◌, ◌<◌, ◌≤◌, List, [], ◌∷◌, ◌++◌, ℤ}
use Rattle.std.proofs.Common.{inl, inr, arith}
use Rattle.std.specs.List.{AllByRecursion}
use Rattle.std.proofs.lemmas.List.{append-nil}
use Rattle.definitions.specs.Certificates.{Ascends}
use Rattle.kohlberg.proofs.Placed.{Apart}
use Rattle.nested_programs.specs.Numbers.{kept}
use Rattle.nested_programs.proofs.FewEntries.{kept_cases}

pub kept_apart : (key : ℕ) (z : ℤ) (qs : List (ℕ × ℤ)) → AllByRecursion (λ p. p.0 ≢ key) qs → Apart qs
    → Apart (kept key z ++ qs)
kept_apart key z qs new apart = elim (kept_cases key z) [
  | inl none ↦ rw none apart
  | inr some ↦ rw some.0 (new, apart)
]

ascends_last : (low key : ℕ) (z : ℤ) (ps : List (ℕ × ℤ)) → low ≤ key → Ascends low ps
    → AllByRecursion (λ p. p.0 < key) ps → Ascends low (ps ++ (key, z) ∷ [])
ascends_last low key z [] le h below = (le, tt)
ascends_last low key z (p ∷ ps) le h below =
    let lt = below.0 in (h.0, ascends_last (p.0 + 1) key z ps (omega (arith, lt)) h.1 below.1)

pub kept_ascends : (key : ℕ) (z : ℤ) (ps : List (ℕ × ℤ)) → Ascends 0 ps → AllByRecursion (λ p. p.0 < key) ps
    → Ascends 0 (ps ++ kept key z)
kept_ascends key z ps h below = elim (kept_cases key z) [
  | inl none ↦ rw none
      (rw (append-nil ps) h)
  | inr some ↦ rw some.0
      (ascends_last 0 key z ps (omega arith) h below)
]
