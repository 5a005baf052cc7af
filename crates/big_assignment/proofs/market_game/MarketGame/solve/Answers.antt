use Rattle.big_assignment.proofs.Solved.{value_kept, pairs_end}
use Rattle.big_assignment.proofs.market_game.MarketGame.solve.Goals as goal

pub returns-clause-pairs : goal.returns-clause-pairs
returns-clause-pairs c =
    let d = c.deal_of_all-deal.result in
    let h = c.deal_of_all-deal.ensures in
    let rows = c.args.self.now in
    pairs_end d rows c.buyers.result c.sellers.result c.in_ok-pairs.pairs.items _ c.buyers.ensures.laws h.table
    h.fair c.buyers.ensures.count c.sellers.ensures.count c.in_ok-pairs.ensures
    (value_kept rows c.everybody.result c.worth.result c.buyers.ensures.laws c.everybody.ensures c.worth.ensures)
