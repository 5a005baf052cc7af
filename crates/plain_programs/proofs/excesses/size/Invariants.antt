use Rattle.std.proofs.Common.{◌≡◌, ◌≤◌, length}
use Rattle.definitions.specs.Coalitions.{members}
use Rattle.plain_programs.proofs.excesses.size.Given as goal

abbrev pub invariant-loop-player : goal.invariant-loop-player
invariant-loop-player l = (l.count ≡ length (members l.player l.coalition)) × (l.count ≤ l.player)
