use Rattle.std.proofs.Common.{◌≡◌, pos, length, slice_index, arith}
use Rattle.std.proofs.lemmas.Result.{IfOk-weaker}
use Rattle.definitions.specs.Sides.{IsBestFor, IsBuyer}
use Rattle.assignment_games.specs.Assignments.{assignment_game}
use Rattle.big_assignment.specs.Mates.{payoff}
use Rattle.big_assignment.specs.Solutions.{IsWhole}
use Rattle.big_assignment.specs.Deals.{at_prices}
use Rattle.big_assignment.proofs.Worths.{payoff_small}
use Rattle.big_assignment.proofs.Solved.{buyers_end}
use Rattle.big_assignment.proofs.market_game.MarketGame.buyers_end.Goals as goal

pub shares_of-requires-clause-small : goal.shares_of-requires-clause-small
shares_of-requires-clause-small c =
    let l = c.cheapest-low.result in
    λ k lt. payoff_small (at_prices c.args.deal.now l.gains l.prices) c.buyers-rows.result k c.requires.offers_small
    (omega arith) c.cheapest-low.ensures.fair
    (omega arith)

pub returns-clause-best : goal.returns-clause-best
returns-clause-best c =
    let l = c.cheapest-low.result in
    let rows = c.args.self.now in
    IfOk-weaker c.shares_of.result
    (λ x. IsWhole c.players.result x 1 (payoff c.buyers-rows.result (slice_index l.gains) (slice_index l.prices)))
    (IsBestFor (assignment_game rows) (IsBuyer (length rows)))
    (λ x whole. buyers_end c.args.deal.now rows c.buyers-rows.result c.players.result l.gains l.prices x
    c.buyers-rows.ensures.laws c.requires.table c.buyers-rows.ensures.count
    c.players.ensures.count c.cheapest-low.ensures.fair c.cheapest-low.ensures.below whole)
    c.shares_of.ensures

pub returns-clause-den : goal.returns-clause-den
returns-clause-den c =
    let l = c.cheapest-low.result in
    IfOk-weaker c.shares_of.result
    (λ x. IsWhole c.players.result x 1 (payoff c.buyers-rows.result (slice_index l.gains) (slice_index l.prices)))
    (λ x. x.den ≡ pos 1) (λ x whole. whole.den) c.shares_of.ensures
