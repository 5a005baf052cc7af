use Rattle.std.proofs.Common.{ℕ, ◌^◌, ◌<◌}
use Rattle.spans.specs.Outside.{is_marked}
use Rattle.spans.proofs.Marks.{IsSifted}
use Rattle.spans.proofs.outside.without_weights.Given as goal

abbrev pub invariant-loop-k : goal.invariant-loop-k
invariant-loop-k l =
    (s : ℕ) → s < 2 ^ 16
    → IsSifted l.n l.fixed l.entries l.k s (is_marked l.fn.words s) (is_marked l.held s)
