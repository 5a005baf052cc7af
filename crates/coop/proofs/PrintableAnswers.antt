-- What is right can be printed over any scale: its fractions stand over the denominator of the shares, or that of
-- measured excesses over them.
use Rattle.std.specs.Prelude.{⊤}
use Rattle.std.proofs.Common.{◌≡◌, ◌^◌, ℕ, List, ℤ, pos, ◌≤ℤ◌, sym, subst}
use Rattle.checker.specs.Meaning.{IsVerdict}
use Rattle.kohlberg.specs.declared.verdicts.Verdict.{Verdict}
use Rattle.kohlberg.specs.declared.verdicts.Verdict.TheVariants.{No}
use Rattle.kohlberg.specs.declared.verdicts.Reason.TheVariants.{OutsideAbove}
use Rattle.definitions.specs.Games.{Game, Allocation, IsShares}
use Rattle.definitions.specs.Certificates.{Level}
use Rattle.definitions.specs.declared.Family.{Family}
use Rattle.definitions.specs.declared.Mode.{Mode}
use Rattle.definitions.specs.Measures.{measured_den}
use Rattle.definitions.specs.declared.Measure.{Measure}
use Rattle.fractions.specs.Fraction.{Fraction, IsReduced}
use Rattle.kernel_test.specs.Answers.{IsSurplusFraction}
use Rattle.kernel_test.specs.declared.KernelAnswer.{KernelAnswer}
use Rattle.kernel_test.specs.declared.KernelAnswer.TheVariants.{Balanced, Differs}
use Rattle.report.specs.Limits.{IsFine, IsFineVerdict}
use Rattle.worth_core.specs.Measured.{IsValueOf}
use Rattle.coop.specs.Checks.{HasLowestExcess}
use Rattle.coop.proofs.FineLevels.{reduced_is_fine, ratio_is_fine, measured_den_positive, measured_den_small}

-- two players that aren't balanced are no balance
abbrev IsDiffers : KernelAnswer → Type 0
IsDiffers (Differs i j ij ji) = ⊤
IsDiffers _ = ⊥

pub differs_not_balanced : (i j : ℕ) (ij ji : Fraction) → Differs i j ij ji ≡ Balanced → ⊥
differs_not_balanced i j ij ji e = subst IsDiffers e tt

-- the surplus of a player against another
pub surplus_fine : (g : Game) (x : Allocation) (i j : ℕ) (f : Fraction) → pos 1 ≤ℤ x.den → x.den ≤ℤ pos (2 ^ 63)
    → IsSurplusFraction g x i j f → IsFine f.den
surplus_fine g x i j f p q h = ratio_is_fine f h.0 x.den h.2 p q

-- the value of a measured excess, in lowest terms
pub value_fine : (measure : Measure) (x : Allocation) (m : ℤ) (f : Fraction) → IsReduced f → pos 1 ≤ℤ x.den
    → x.den ≤ℤ pos (2 ^ 63) → IsValueOf measure x m f → IsFine f.den
value_fine measure x m f r p q h =
    reduced_is_fine f m (measured_den measure x.den) r (measured_den_positive measure x.den p)
    (measured_den_small measure x.den p q) (sym h)

-- the excess of a verdict
pub verdict_fine : (mode : Mode) (family : Family) (measure : Measure) (g : Game) (x : Allocation)
    (levels : List Level) (v : Verdict) → IsShares x → IsVerdict mode family measure g x levels v
    → HasLowestExcess v → IsFineVerdict v
verdict_fine mode family measure g x levels (No (OutsideAbove j e)) s h low =
    value_fine measure x h.0 e low s.positive s.common h.1
verdict_fine mode family measure g x levels v s h low = tt
