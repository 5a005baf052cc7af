use Rattle.std.proofs.Common.{◌≡◌, ◌≤◌, length}
use Rattle.definitions.specs.Coalitions.{members}
use Rattle.coalitions.proofs.Coalition.members.Given as goal

abbrev pub invariant-loop-i : goal.invariant-loop-i
invariant-loop-i l = (l.found.items ≡ members l.i l.self) × (length l.found.items ≤ l.i)
