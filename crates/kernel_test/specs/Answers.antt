-- What the test of the prekernel answers.
use Rattle.std.specs.Prelude.{ℕ, ℤ}
use Rattle.fractions.specs.Fraction.{Fraction, IsRatio}
use Rattle.definitions.specs.Games.{Game, Allocation, IsEfficient}
use Rattle.definitions.specs.Prekernel.{IsSurplus, InPrekernel, IsFirstUnbalanced}
use Rattle.kernel_test.specs.declared.KernelAnswer.{KernelAnswer}
use Rattle.kernel_test.specs.declared.KernelAnswer.TheVariants.{Balanced, NotEfficient, Differs}

-- f is the surplus of i against j in lowest terms
abbrev pub IsSurplusFraction : Game → Allocation → ℕ → ℕ → Fraction → Type 0
IsSurplusFraction g x i j f = (m : ℤ) × IsSurplus g x i j m × IsRatio f m x.den

-- Balanced if the shares are in the prekernel; else that they aren't efficient, or the first two players that
-- aren't balanced, with both surpluses
abbrev pub IsKernelAnswer : Game → Allocation → KernelAnswer → Type 0
IsKernelAnswer g x Balanced = InPrekernel g x
IsKernelAnswer g x NotEfficient = ¬ IsEfficient g x
IsKernelAnswer g x (Differs i j ij ji) =
    IsEfficient g x × IsFirstUnbalanced g x i j × IsSurplusFraction g x i j ij × IsSurplusFraction g x j i ji
