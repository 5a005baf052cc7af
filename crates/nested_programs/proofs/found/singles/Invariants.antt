use Rattle.std.proofs.Common.{◌≡◌, ◌*◌, ◌^◌, ◌≤◌, unsigned_abs}
use Rattle.definitions.specs.Sums.{sum_below}
use Rattle.definitions.specs.Coalitions.{singleton}
use Rattle.nested_programs.proofs.found.singles.Given as goal

abbrev pub invariant-loop-i : goal.invariant-loop-i
invariant-loop-i g l = record {
  is : l.sum ≡ sum_below l.i (λ i. (g.W.Worth.game l.game).worth (singleton i));
  small : unsigned_abs l.sum ≤ l.i * 2 ^ 46;
}
