use Rattle.std.proofs.Common.{◌≡◌}
use Rattle.big_assignment.specs.Searches.{IsSearch, unreached}
use Rattle.big_assignment.proofs.search.add_row.Given as goal

abbrev pub decreases-loop-search : goal.decreases-loop-search
decreases-loop-search l = unreached l.search.ranks

abbrev pub invariant-loop-search : goal.invariant-loop-search
invariant-loop-search l = (l.deal.table ≡ l.fn.deal.table) × IsSearch l.deal l.search l.n
