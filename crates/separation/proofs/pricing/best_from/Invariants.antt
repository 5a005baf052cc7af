use Rattle.std.proofs.Common.{◌*◌}
use Rattle.separation.specs.Scanned.{NoneBetween}
use Rattle.separation.proofs.pricing.best_from.Given as goal

abbrev pub invariant-loop-block : goal.invariant-loop-block
invariant-loop-block g l = NoneBetween l.scan (256 * l.from) (256 * l.block)
