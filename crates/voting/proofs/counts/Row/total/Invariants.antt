use Rattle.std.proofs.Common.{◌≡◌, ◌*◌, ◌^◌, ◌≤◌, pos}
use Rattle.voting.specs.Counts.{range_total}
use Rattle.voting.proofs.counts.Row.total.Given as goal

abbrev pub invariant-loop-w : goal.invariant-loop-w
invariant-loop-w l = record {
  value : pos l.total ≡ range_total l.self l.low l.w;
  small : l.total ≤ l.w * 2 ^ 32;
}
