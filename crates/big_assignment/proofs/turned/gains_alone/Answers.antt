use Rattle.std.proofs.Common.{refl, arith}
use Rattle.big_assignment.proofs.Arrays.{zeros}
use Rattle.big_assignment.proofs.turned.gains_alone.Goals as goal

pub loop-i-init : goal.loop-i-init
loop-i-init c = (refl, (λ j lt. absurd (omega arith)), (λ j le. zeros 33 j))
