-- A verdict under other names for the mode, the number of players and the levels.
use Rattle.std.proofs.Common.{◌≡◌, ℕ, List, sym, subst}
use Rattle.theorems.proofs.Soundness.{IsNucleolus-from_certificate}
use Rattle.definitions.specs.Measures.{IsMeasurable}
use Rattle.definitions.specs.Games.{Game, Allocation, IsNucleolus}
use Rattle.definitions.specs.Certificates.{Level, HasForm, Certifies}
use Rattle.definitions.specs.Failures.{IsFirstFailure}
use Rattle.definitions.specs.declared.Family.{Family}
use Rattle.definitions.specs.declared.Measure.{Measure}
use Rattle.definitions.specs.declared.Mode.{Mode}
use Rattle.kohlberg.specs.declared.verdicts.Reason.{Reason}
use Rattle.checker.specs.Meaning.{Means}
use Rattle.checker.proofs.Judged.{not_certified}

pub sound : (mode mode' : Mode) (family : Family) (measure : Measure) (g : Game) (x : Allocation)
    (levels : List Level) (n : ℕ) → IsMeasurable measure g.players → HasForm mode n levels → n ≡ g.players
    → mode' ≡ mode → Certifies mode' family measure g x levels → IsNucleolus family measure g x
sound mode mode' family measure g x levels n able form count same h =
    IsNucleolus-from_certificate mode family measure g x levels able
    (subst (λ (k : ℕ). HasForm mode k levels) count form)
    (subst (λ (m : Mode). Certifies m family measure g x levels) same h)

pub refuted : (mode mode' : Mode) (family : Family) (measure : Measure) (g : Game) (x : Allocation)
    (levels levels' : List Level) (r : Reason) → mode' ≡ mode → levels' ≡ levels
    → Means measure x (IsFirstFailure mode' family measure g x levels') r → Certifies mode family measure g x levels
    → ⊥
refuted mode mode' family measure g x levels levels' r same eq m h =
    not_certified mode' family measure g x levels' r m
    (subst (λ (ls : List Level). Certifies mode' family measure g x ls) (sym eq)
    (subst (λ (k : Mode). Certifies k family measure g x levels) (sym same) h))
