use Rattle.std.proofs.Common.{◌*◌}
use Rattle.separation.specs.Scanned.{NoneBelow}
use Rattle.separation.proofs.pricing.first_by_blocks.Given as goal

abbrev pub invariant-loop-block : goal.invariant-loop-block
invariant-loop-block g l = NoneBelow l.scan (256 * l.block)
