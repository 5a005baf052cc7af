use Rattle.std.proofs.Common.{◌≡◌, pos, length, slice_index, arith}
use Rattle.std.proofs.lemmas.Result.{IfOk-weaker}
use Rattle.definitions.specs.Sides.{IsBestFor, IsSeller}
use Rattle.assignment_games.specs.Assignments.{assignment_game}
use Rattle.big_assignment.specs.Mates.{payoff}
use Rattle.big_assignment.specs.Solutions.{IsWhole}
use Rattle.big_assignment.specs.Deals.{at_prices}
use Rattle.big_assignment.proofs.Turns.{turned_offers}
use Rattle.big_assignment.proofs.Solved.{turned_deal, turned_small, sellers_end}
use Rattle.big_assignment.proofs.market_game.MarketGame.sellers_end.Goals as goal

pub cheapest-high-requires-clause-fair : goal.cheapest-high-requires-clause-fair
cheapest-high-requires-clause-fair c =
    turned_deal c.args.deal.now c.args.self.now c.buyers-rows.result c.sellers-columns.result
    c.exchanged-turned.result c.buyers-rows.ensures.laws c.requires.table c.requires.fair
    c.buyers-rows.ensures.count c.sellers-columns.ensures.count c.exchanged-turned.ensures

pub shares_of-requires-clause-small : goal.shares_of-requires-clause-small
shares_of-requires-clause-small c =
    let t = c.exchanged-turned.result in
    let h = c.cheapest-high.result in
    λ k lt. turned_small (at_prices t h.gains h.prices) c.buyers-rows.result c.sellers-columns.result c.players.result
    k
    (turned_offers c.args.deal.now c.buyers-rows.result c.sellers-columns.result t c.exchanged-turned.ensures
    c.requires.offers_small)
    (omega arith) (omega arith) (omega arith) c.cheapest-high.ensures.fair lt

pub returns-clause-best : goal.returns-clause-best
returns-clause-best c =
    let h = c.cheapest-high.result in
    let rows = c.args.self.now in
    IfOk-weaker c.shares_of.result
    (λ x. IsWhole c.players.result x 1 (payoff c.buyers-rows.result (slice_index h.prices) (slice_index h.gains)))
    (IsBestFor (assignment_game rows) (IsSeller (length rows)))
    (λ x whole. sellers_end c.args.deal.now rows c.buyers-rows.result c.sellers-columns.result c.players.result
    c.exchanged-turned.result h.gains h.prices x c.buyers-rows.ensures.laws c.requires.table c.requires.fair
    c.buyers-rows.ensures.count
    c.sellers-columns.ensures.count c.players.ensures.count c.exchanged-turned.ensures
    c.cheapest-high.ensures.fair c.cheapest-high.ensures.below whole)
    c.shares_of.ensures

pub returns-clause-den : goal.returns-clause-den
returns-clause-den c =
    let h = c.cheapest-high.result in
    IfOk-weaker c.shares_of.result
    (λ x. IsWhole c.players.result x 1 (payoff c.buyers-rows.result (slice_index h.prices) (slice_index h.gains)))
    (λ x. x.den ≡ pos 1) (λ x whole. whole.den) c.shares_of.ensures
