use Rattle.coalitions.proofs.GrayOrder.{gray_fits}
use Rattle.coalitions.proofs.gray.GrayStep.at.Goals as goal

pub invariant_of-result : goal.invariant_of-result
invariant_of-result c = gray_fits 64 c.args.k c.ranges.k.fits
