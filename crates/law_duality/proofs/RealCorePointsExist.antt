-- A game with a core point in real shares has one in fractions: otherwise it has a balanced collection of excess worth
-- (Bondareva 1963, Shapley 1967), which leaves no core point in real shares either.
use Rattle.std.proofs.Common.{inl, inr}
use Rattle.law_duality.specs.RealCores.{RealCorePointsExist}
use Rattle.law_duality.proofs.BondarevaShapley.{bondareva_shapley}
use Rattle.real_shares.proofs.RealNumbers.{are_ordered}
use Rattle.real_shares.proofs.CoreOver.{collection_blocks_over}
use Rattle.real_shares.proofs.ForReals.{core_point_for_reals}

pub real_core_points_exist : RealCorePointsExist
real_core_points_exist g nobody N R = (
  λ real. elim (bondareva_shapley g nobody) [
    | inl core ↦ core.0
    | inr c ↦ absurd (collection_blocks_over N (are_ordered N R) g real.0 real.1 c.0.0 c.0.1 c.0.2)
  ],
  λ core. (let y = core_point_for_reals g core.0 core.1 N R in (y.0, y.2)),
)
