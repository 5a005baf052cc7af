use Rattle.std.proofs.Common.{◌≡◌, length}
use Rattle.big_assignment.specs.Deals.{with_columns}
use Rattle.big_assignment.specs.Searches.{IsOpen, rank_of}
use Rattle.big_assignment.proofs.search.hand_over.Given as goal

abbrev pub decreases-loop-columns : goal.decreases-loop-columns
decreases-loop-columns l = rank_of l.search l.k

abbrev pub invariant-loop-columns : goal.invariant-loop-columns
invariant-loop-columns l = (length l.columns ≡ 33) × IsOpen (with_columns l.deal l.columns) l.search l.n l.k
