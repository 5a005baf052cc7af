-- Which shares are reasonable: nobody gets more than the most that it adds to any coalition, nor less than the least.
-- Source: Milnor 1952; Peleg and Sudhölter, Introduction to the Theory of Cooperative Games. Each law is the contract
-- of a function of this crate.
--
--   BalancedIsReasonable    those of the prekernel and of the kernel are, if the empty coalition is worth nothing
--   NucleolusIsReasonable   so the nucleolus and the prenucleolus are
--   ReasonableShares        examples: of three who vote by majority thirds are reasonable, and twice all for the first
--                           isn't; each adds at most 1 and at least 0
use Rattle.std.specs.Prelude.{◌≡◌, ◌⊎◌, [], ◌∷◌, pos, neg_ℤ}
use Rattle.definitions.specs.Games.{Game, Allocation, IsNucleolus}
use Rattle.definitions.specs.Prekernel.{InPrekernel}
use Rattle.definitions.specs.declared.Family.{Family}
use Rattle.definitions.specs.declared.Measure.TheVariants.{Plain}
use Rattle.law_answers.specs.Reasonable.{AddsAtMost, AddsAtLeast, IsReasonable}
use Rattle.law_answers.specs.SmallNucleoli.{thirds}
use Rattle.law_stability.specs.Kernel.{InKernel}
use Rattle.law_stability.specs.Majority.{majority}

abbrev pub BalancedIsReasonable : Type 0
BalancedIsReasonable =
    (g : Game) (x : Allocation) → g.worth 0 ≡ pos 0 → InPrekernel g x ⊎ InKernel g x → IsReasonable g x

abbrev pub NucleolusIsReasonable : Type 0
NucleolusIsReasonable =
    (family : Family) (g : Game) (x : Allocation) → g.worth 0 ≡ pos 0 → IsNucleolus family Plain g x →
    IsReasonable g x

-- the first gets 2, and the others share what that costs
abbrev pub first_takes_twice : Allocation
first_takes_twice = record { shares = pos 4 ∷ (neg_ℤ (pos 1) ∷ (neg_ℤ (pos 1) ∷ [])); den = pos 2 }

abbrev pub ReasonableShares : Type 0
ReasonableShares =
    (AddsAtMost majority 0 (pos 1) × ¬ AddsAtMost majority 0 (pos 0))
    × (AddsAtLeast majority 0 (pos 0) × ¬ AddsAtLeast majority 0 (pos 1))
    × (IsReasonable majority thirds × ¬ IsReasonable majority first_takes_twice)
