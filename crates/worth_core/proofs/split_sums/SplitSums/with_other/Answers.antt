use Rattle.std.proofs.Common.{ap, arith}
use Rattle.worth_core.specs.SplitKinds.{Sums}
use Rattle.worth_core.proofs.SmallSums.{IsSmallSum-next}
use mir.Syntax.{w128}
use Rattle.worth_core.proofs.split_sums.SplitSums.with_other.Goals as goal
use Rattle.definitions.proofs.Casts.{cast_kept}

pub invariant_of-result : goal.invariant_of-result
invariant_of-result c =
    let kept = cast_kept w128 c.args.weight (omega (arith, c.requires.small)) in
    let count = ap (λ (s : Sums). s.count) c.self.view_is in
    let inside = c.self.inside in
    let i = c.self.invariant in
    record {
      few = omega (arith, count, c.requires.room);
      neither =
          IsSmallSum-next inside.count inside.neither c.longer.result c.greater.result _ i.neither
          (rw kept c.requires.small) c.longer.ensures c.greater.ensures;
      holding =
          IsSmallSum-next inside.count inside.holding c.longer-2.result c.greater-2.result _ i.holding
          (rw kept c.requires.small) c.longer-2.ensures c.greater-2.ensures;
      lacking =
          IsSmallSum-next inside.count inside.lacking c.longer-3.result c.greater-3.result _ i.lacking
          (rw kept c.requires.small) c.longer-3.ensures c.greater-3.ensures;
      both =
          IsSmallSum-next inside.count inside.both c.longer-4.result c.greater-4.result _ i.both
          (rw kept c.requires.small) c.longer-4.ensures c.greater-4.ensures;
    }
