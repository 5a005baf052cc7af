use Rattle.std.proofs.Common.{◌∙◌}
use Rattle.big_assignment.proofs.search.add_row.Goals as goal

pub advance-requires-clause-search : goal.advance-requires-clause-search
advance-requires-clause-search c = c.loop-search.invariant.1

pub loop-search-preserved : goal.loop-search-preserved
loop-search-preserved c =
    (c.advance.ensures.table ∙ c.loop-search.invariant.0, c.advance.ensures.more c.loop-search-test.true)

pub returns-clause-table : goal.returns-clause-table
returns-clause-table c = c.advance.ensures.table ∙ c.loop-search.invariant.0

pub returns-clause-fair : goal.returns-clause-fair
returns-clause-fair c = c.advance.ensures.found c.loop-search-test.false
