use Rattle.std.proofs.Common.{◌≡◌}
use Rattle.voting.specs.Counts.{share_unit}
use Rattle.voting.proofs.units.share_unit.Given as goal

abbrev pub invariant-loop-j : goal.invariant-loop-j
invariant-loop-j l = l.unit ≡ share_unit l.n l.j
