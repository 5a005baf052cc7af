use Rattle.big_assignment.proofs.market_game.MarketGame.deal.Goals as goal

pub add_row-requires-clause-offers : goal.add_row-requires-clause-offers
add_row-requires-clause-offers c = c.loop-n.invariant.1

pub add_row-requires-clause-fair : goal.add_row-requires-clause-fair
add_row-requires-clause-fair c = c.loop-n.invariant.2

pub loop-n-preserved : goal.loop-n-preserved
loop-n-preserved c = (
  λ i j lt le. rw c.add_row.ensures.table (c.loop-n.invariant.0 i j lt le),
  rw c.add_row.ensures.table c.loop-n.invariant.1,
  c.add_row.ensures.fair,
)

pub returns-clause-table : goal.returns-clause-table
returns-clause-table c = c.loop-n.invariant.0

pub returns-clause-offers : goal.returns-clause-offers
returns-clause-offers c = c.loop-n.invariant.1
