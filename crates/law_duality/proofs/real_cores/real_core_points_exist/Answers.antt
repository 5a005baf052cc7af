use Rattle.law_duality.proofs.RealCorePointsExist.{real_core_points_exist}
use Rattle.law_duality.proofs.real_cores.real_core_points_exist.Goals as goal

pub returns : goal.returns
returns c = real_core_points_exist
