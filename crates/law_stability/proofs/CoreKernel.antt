-- At a core point no surplus is above 0, and a player that gets exactly its worth alone has a surplus of at least 0: so
-- nobody is outweighed.
use Rattle.std.proofs.Common.{◌≡◌, ◌≢◌, ℕ, ◌<◌, ◌-ℤ◌, ◌*ℤ◌, sym, arith}
use Rattle.definitions.proofs.Masks.{singleton-within}
use Rattle.definitions.proofs.Members.{sum_over-singleton}
use Rattle.definitions.proofs.Ring.{linear}
use Rattle.definitions.proofs.SumsOver.{amount-at}
use Rattle.theorems.proofs.Transfers.{holds_without-singleton}
use Rattle.definitions.specs.Coalitions.{singleton}
use Rattle.definitions.specs.Games.{Game, Allocation, share, excess, IsAllocation, InCore}
use Rattle.definitions.specs.declared.Family.TheVariants.{Imputations}
use Rattle.law_answers.proofs.NucleolusIsInCore.{core_low, core_family}
use Rattle.law_stability.specs.Kernel.{Outweighs, InKernel, AtACorePoint}
use Rattle.law_stability.proofs.Kernel.{kernel_from, prekernel_from}

-- what a player gets, as an excess
pub excess-alone : (g : Game) (x : Allocation) (i : ℕ) → IsAllocation g x → i < g.players
    → excess g x (singleton i) ≡ x.den *ℤ g.worth (singleton i) -ℤ share x i
excess-alone g x i hx lt =
    omega (arith, linear, amount-at g x (singleton i) hx, sum_over-singleton g.players i (share x) lt)

none_outweighed : (g : Game) (x : Allocation) → InCore g x → InKernel g x → (i j : ℕ) → i < g.players
    → j < g.players → i ≢ j → ¬ Outweighs g x i j
none_outweighed g x core h i j hi hj ne outweighs =
    let just = h.1 i j hi hj ne outweighs in
    let low = core_low g x core outweighs.2.0.0 outweighs.2.0.1.0 in
    let nothing =
    outweighs.3.1 (singleton j) (singleton-within g.players j hj, holds_without-singleton j i (λ e. ne (sym e))) in
    omega (arith, linear, just, low, nothing, outweighs.4, outweighs.2.0.2, excess-alone g x j h.0.0 hj)

pub at_a_core_point : AtACorePoint
at_a_core_point g x core = (
  λ h. prekernel_from g x h.0 (none_outweighed g x core h),
  λ h. kernel_from g x (core_family Imputations g x core).2 h,
)
