-- If player i outweighs j at the nucleolus, j gets exactly its worth alone: otherwise a small move from j to i would
-- leave an imputation whose excesses come first (Schmeidler 1969).
use Rattle.std.proofs.Common.{◌≡◌, ◌≢◌, ℕ, ◌^◌, ◌<◌, true, ℤ, pos, ◌*ℤ◌, ◌<ℤ◌, refl, sym, subst, inl, arith}
use Rattle.std.proofs.lemmas.Int.{by_lt_z}
use Rattle.definitions.proofs.Ring.{linear}
use Rattle.definitions.proofs.Scans.{IsGreatest-unique}
use Rattle.theorems.proofs.Moves.{excess-raised, no_gain}
use Rattle.theorems.proofs.Transfers.{surplus_of}
use Rattle.definitions.specs.Coalitions.{singleton}
use Rattle.definitions.specs.Games.{Game, Allocation, share, excess, IsIndividuallyRational, InFamily, IsNucleolus}
use Rattle.definitions.specs.Prekernel.{holds_without, IsSurplus, AreBalanced, InPrekernel}
use Rattle.definitions.specs.declared.Family.TheVariants.{Imputations}
use Rattle.definitions.specs.declared.Measure.TheVariants.{Plain}
use Rattle.law_duality.proofs.Nucleoli.{nucleoli_exist}
use Rattle.law_stability.specs.Kernel.{Outweighs, InKernel, NucleolusIsInKernel, KernelIsntEmpty}

-- who gets more than alone isn't outweighed
no_greater : (g : Game) (x : Allocation) (i j : ℕ) (m k : ℤ) → IsNucleolus Imputations Plain g x → i < g.players
    → j < g.players → i ≢ j → IsSurplus g x i j m → IsSurplus g x j i k → k <ℤ m
    → (x.den *ℤ g.worth (singleton j)) <ℤ share x j → ⊥
no_greater g x i j m k h hi hj ne most other lt more =
    no_gain Imputations Plain (pos 1) g x i j m (inl refl) h (omega (arith, linear)) hi hj ne
    (λ e. omega (arith, linear, more)) most
    (λ s within holds. omega
    (arith, linear, lt, excess-raised (pos 1) g x i j s h.0.0 hi hj holds, other.1 s (within, holds)))

pub nucleolus_in_kernel : NucleolusIsInKernel
nucleolus_in_kernel g x h = (
  h.0,
  λ i j hi hj ne outweighs.
      by_lt_z (x.den *ℤ g.worth (singleton j)) (share x j)
      (λ more. absurd
      (no_greater g x i j outweighs.0 outweighs.1 h hi hj ne outweighs.2 outweighs.3 outweighs.4 more))
      (λ le. omega (arith, linear, le, h.0.2 j hj)),
)

pub kernel_isnt_empty : KernelIsntEmpty
kernel_isnt_empty g y h =
    let (x, hx) = nucleoli_exist Imputations Plain g y (inl refl) h in
    (x, nucleolus_in_kernel g x hx)

-- ---- beside the prekernel

-- of two who are balanced, neither outweighs the other
pub none_outweighs : (g : Game) (x : Allocation) (i j : ℕ) → AreBalanced g x i j → ¬ Outweighs g x i j
none_outweighs g x i j balanced outweighs =
    let a =
    IsGreatest-unique (λ s. (s < 2 ^ g.players) × (holds_without i j s ≡ true)) (excess g x) outweighs.0 balanced.0
    outweighs.2 balanced.1 in
    let b =
    IsGreatest-unique (λ s. (s < 2 ^ g.players) × (holds_without j i s ≡ true)) (excess g x) outweighs.1 balanced.0
    outweighs.3 balanced.2 in
    omega (arith, linear, a, b, outweighs.4)

-- so where any two are balanced, nobody is outweighed
pub kernel_from : (g : Game) (x : Allocation) → IsIndividuallyRational g x → InPrekernel g x → InKernel g x
kernel_from g x individual h = (
  (h.0, h.1, individual),
  λ i j hi hj ne outweighs. absurd (none_outweighs g x i j (h.2 i j hi hj ne) outweighs),
)

-- and where nobody is outweighed, any two are balanced
pub prekernel_from : (g : Game) (x : Allocation) → InFamily Imputations g x
    → ((i j : ℕ) → i < g.players → j < g.players → i ≢ j → ¬ Outweighs g x i j) → InPrekernel g x
prekernel_from g x h never = (
  h.0,
  h.1,
  λ i j hi hj ne.
      let most = surplus_of g x i j hi ne in
      let other = surplus_of g x j i hj (λ e. ne (sym e)) in
      let same : other.0 ≡ most.0 = by_lt_z other.0 most.0
      (λ lt. absurd (never i j hi hj ne (most.0, other.0, most.1, other.1, lt)))
      (λ le. by_lt_z most.0 other.0
      (λ lt. absurd (never j i hj hi (λ e. ne (sym e)) (other.0, most.0, other.1, most.1, lt)))
      (λ ge. omega (arith, linear, le, ge))) in
      (most.0, most.1, subst (IsSurplus g x j i) same other.1),
)
