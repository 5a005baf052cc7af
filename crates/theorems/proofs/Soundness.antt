-- A certificate that meets its conditions certifies the nucleolus: from the theorem on ordered groups.
use Rattle.std.proofs.Common.{◌≡◌, ◌⊎◌, ℕ, zero, suc, ◌+◌, ◌<◌, ◌≤◌, List, map, ℤ, ◌≤ℤ◌, ◌<ℤ◌, sym, subst, inl, inr}
use Rattle.std.proofs.Common.{arith}
use Rattle.std.specs.List.{range_with_len}
use Rattle.theorems.proofs.SortedLemmas.{SameOrLow, SomeAbove}
use Rattle.definitions.specs.Measures.{IsMeasurable}
use Rattle.definitions.specs.Games.{Game, Allocation, IsNucleolus}
use Rattle.definitions.specs.Certificates.{Level, HasForm, Certifies}
use Rattle.definitions.specs.declared.Family.{Family}
use Rattle.definitions.specs.declared.Measure.{Measure}
use Rattle.definitions.specs.declared.Mode.{Mode}
use Rattle.definitions.proofs.Cases.{same_or_later}
use Rattle.real_shares.specs.Theorems.{fractions_over}
use Rattle.real_shares.proofs.FractionShares.{fractions_ordered, fraction_shares}
use Rattle.real_shares.proofs.Soundness.{IsNucleolusOver-from_certificate}

-- ---- lists over the masks

pub SameOrLow-range : (e : ℤ) (f h : ℕ → ℤ) (a k : ℕ) → ((s : ℕ) → a ≤ s → s < a + k → (f s ≡ h s) ⊎ (f s ≤ℤ e))
    → SameOrLow e (map f (range_with_len a k)) (map h (range_with_len a k))
SameOrLow-range e f h a zero each = tt
SameOrLow-range e f h a (suc k) each = (
  each a (omega arith) (omega arith),
  SameOrLow-range e f h (a + 1) k (λ s low high. each s (omega arith) (omega arith)),
)

pub SomeAbove-range : (e : ℤ) (f h : ℕ → ℤ) (a k c : ℕ) → a ≤ c → c < a + k → f c ≤ℤ e → e <ℤ h c
    → SomeAbove e (map f (range_with_len a k)) (map h (range_with_len a k))
SomeAbove-range e f h a zero c low high at above = absurd (omega arith)
SomeAbove-range e f h a (suc k) c low high at above = elim (same_or_later a c low) [
  | inl same ↦ inl (subst (λ (i : ℕ). (f i ≤ℤ e) × (e <ℤ h i)) (sym same) (at, above))
  | inr later ↦ inr (SomeAbove-range e f h (a + 1) k c later (omega arith) at above)
]

pub IsNucleolus-from_certificate : (mode : Mode) (family : Family) (measure : Measure) (g : Game) (x : Allocation)
    (levels : List Level) → IsMeasurable measure g.players → HasForm mode g.players levels
    → Certifies mode family measure g x levels → IsNucleolus family measure g x
IsNucleolus-from_certificate mode family measure g x levels m form certifies =
    (fraction_shares family measure g x).1
    (λ q one. IsNucleolusOver-from_certificate (fractions_over q) (fractions_ordered q one) mode family measure g
    x levels m form certifies)
