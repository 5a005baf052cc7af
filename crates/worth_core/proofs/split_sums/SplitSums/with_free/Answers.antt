use Rattle.std.proofs.Common.{ap, arith, ◌+◌, ◌≤◌}
use Rattle.worth_core.specs.SplitKinds.{Sums}
use Rattle.worth_core.proofs.SmallSums.{IsSmallSum-either, IsSmallSum-longer, IsSmallSum-up}
use mir.Syntax.{w128}
use Rattle.worth_core.proofs.split_sums.SplitSums.with_free.Goals as goal
use Rattle.definitions.proofs.Casts.{cast_kept}

pub longer-requires-2-clause-room : goal.longer-requires-2-clause-room
longer-requires-2-clause-room c =
    let count = ap (λ (s : Sums). s.count) c.self.view_is in
    let inside = c.self.inside in
    let i = c.self.invariant in
    IsSmallSum-up inside.count 63 c.greater-4.result (omega (arith, count, c.requires.room))
    (IsSmallSum-either inside.count inside.lacking inside.both c.greater-4.result i.lacking i.both
    c.greater-4.ensures)

pub invariant_of-result : goal.invariant_of-result
invariant_of-result c =
    let kept = cast_kept w128 c.args.weight (omega (arith, c.requires.small)) in
    let count = ap (λ (s : Sums). s.count) c.self.view_is in
    let inside = c.self.inside in
    let n = inside.count in
    let i = c.self.invariant in
    let up : n ≤ n + 1 = omega arith in
    let either = IsSmallSum-either n in
    record {
      few = omega (arith, count, c.requires.room);
      neither = tt;
      holding = rw c.longer.ensures
          (IsSmallSum-longer n c.greater.result _
          (either inside.neither inside.holding c.greater.result i.neither i.holding c.greater.ensures)
          (rw kept c.requires.small));
      lacking =
          IsSmallSum-up n (n + 1) c.greater-2.result up
          (either inside.neither inside.lacking c.greater-2.result i.neither i.lacking c.greater-2.ensures);
      both = IsSmallSum-either (n + 1) c.greater-3.result c.longer-2.result c.greater-5.result
          (IsSmallSum-up n (n + 1) c.greater-3.result up
          (either inside.holding inside.both c.greater-3.result i.holding i.both c.greater-3.ensures))
          (rw c.longer-2.ensures
          (IsSmallSum-longer n c.greater-4.result _
          (either inside.lacking inside.both c.greater-4.result i.lacking i.both c.greater-4.ensures)
          (rw kept c.requires.small)))
          c.greater-5.ensures;
    }
