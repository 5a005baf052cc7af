use Rattle.std.proofs.Common.{◌≡◌}
use Rattle.big_assignment.specs.Deals.{mate_of}
use Rattle.big_assignment.specs.Mates.{pairs_from}
use Rattle.big_assignment.specs.Solutions.{player_pairs}
use Rattle.big_assignment.proofs.solution.pairs_of.Given as goal

abbrev pub invariant-loop-i : goal.invariant-loop-i
invariant-loop-i l = l.pairs.items ≡ player_pairs l.rows (pairs_from (mate_of l.deal) l.columns 0 l.i)
