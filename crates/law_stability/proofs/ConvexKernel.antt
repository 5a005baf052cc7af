-- The kernel of a convex game is its prekernel, which is one point; and the prenucleolus lies there.
use Rattle.std.proofs.Common.{refl, inl, inr, arith}
use Rattle.definitions.proofs.Cases.{same_or_other}
use Rattle.definitions.specs.Convexity.{IsConvex}
use Rattle.definitions.specs.Games.{Game, Allocation, IsNucleolus}
use Rattle.definitions.specs.Prekernel.{InPrekernel}
use Rattle.definitions.specs.declared.Family.TheVariants.{Preimputations}
use Rattle.definitions.specs.declared.Measure.TheVariants.{Plain}
use Rattle.theorems.proofs.Transfers.{prenucleolus_in_prekernel}
use Rattle.law_duality.proofs.Nucleoli.{prenucleoli_exist}
use Rattle.law_stability.specs.ConvexCores.{ConvexKernelIsOnePoint, ConvexKernelIsNucleolus}
use Rattle.law_stability.specs.ConvexCores.{ConvexPrekernelIsPrenucleolus}
use Rattle.law_stability.proofs.Kernel.{nucleolus_in_kernel}
use Rattle.law_stability.proofs.OneKernelPoint.{same_point}
use Rattle.law_stability.proofs.WhoJoins.{convex_is_zero_monotonic}
use Rattle.law_stability.proofs.ZeroMonotonic.{kernel_is_prekernel, nucleolus-same, prenucleolus_is_nucleolus}

pub one_point : ConvexKernelIsOnePoint
one_point g x y nobody convex hx hy =
    let mono = convex_is_zero_monotonic g nobody convex in
    same_point g x y convex ((kernel_is_prekernel g x mono).0 hx) ((kernel_is_prekernel g y mono).0 hy)

to_prenucleolus : (g : Game) (x : Allocation) → IsConvex g → InPrekernel g x → IsNucleolus Preimputations Plain g x
to_prenucleolus g x convex h = elim (same_or_other g.players 0) [
  | inl none ↦
      ((h.0, h.1), λ y hy differs. absurd (differs (λ i lt. absurd (omega (arith, none, lt)))))
  | inr some ↦
      let (p, hp) = prenucleoli_exist Plain g (inl refl) (omega (arith, some)) in
      nucleolus-same Preimputations g x p (h.0, h.1) hp
      (same_point g x p convex h (prenucleolus_in_prekernel g p hp))
]

pub prekernel_is_prenucleolus : ConvexPrekernelIsPrenucleolus
prekernel_is_prenucleolus g x convex = (to_prenucleolus g x convex, prenucleolus_in_prekernel g x)

pub kernel_is_nucleolus : ConvexKernelIsNucleolus
kernel_is_nucleolus g x nobody convex = (
  λ h.
      let mono = convex_is_zero_monotonic g nobody convex in
      (prenucleolus_is_nucleolus g x mono).0 (to_prenucleolus g x convex ((kernel_is_prekernel g x mono).0 h)),
  nucleolus_in_kernel g x,
)
