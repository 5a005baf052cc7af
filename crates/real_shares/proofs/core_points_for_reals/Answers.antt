use Rattle.real_shares.proofs.ForReals.{core_point_for_reals}
use Rattle.real_shares.proofs.core_points_for_reals.Goals as goal

pub returns : goal.returns
returns c = core_point_for_reals
