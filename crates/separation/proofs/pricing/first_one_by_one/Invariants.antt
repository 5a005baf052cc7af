use Rattle.separation.specs.Scanned.{NoneBelow}
use Rattle.separation.proofs.pricing.first_one_by_one.Given as goal

abbrev pub invariant-loop-mask : goal.invariant-loop-mask
invariant-loop-mask g l = NoneBelow l.scan l.mask
