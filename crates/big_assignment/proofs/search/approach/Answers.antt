use Rattle.std.proofs.Common.{arith}
use Rattle.big_assignment.specs.Searches.{IsShifted}
use Rattle.big_assignment.proofs.Searches.{slack_enough, slack_covers, search_covered, shift_keeps}
use Rattle.big_assignment.proofs.search.approach.Goals as goal

pub lowered-gains-requires-clause-enough : goal.lowered-gains-requires-clause-enough
lowered-gains-requires-clause-enough c =
    slack_enough c.args.deal.now c.args.search.now c.args.n c.slack-by.result c.nearest-i.result.0
    c.nearest-i.result.1 c.requires.offers c.requires.rows c.requires.search c.nearest-i.ensures c.slack-by.ensures

pub returns-clause-search : goal.returns-clause-search
returns-clause-search c =
    let d = c.args.deal.now in
    let s = c.args.search.now in
    let n = c.args.n in
    let by = c.slack-by.result in
    let gains = c.lowered-gains.result in
    let prices = c.raised-deal.result in
    let shifted : IsShifted d s n by gains prices = record {
      in_row = c.lowered-gains.ensures.reached;
      out_row = c.lowered-gains.ensures.rest;
      in_column = c.raised-deal.ensures.reached;
      out_column = c.raised-deal.ensures.rest;
    } in
    shift_keeps d s n by gains prices shifted c.requires.search
    (slack_covers d s n by c.nearest-i.result.0 c.nearest-i.result.1 c.nearest-i.ensures c.slack-by.ensures)

pub returns-clause-tight : goal.returns-clause-tight
returns-clause-tight c =
    let near = c.nearest-i.ensures in
    let row = c.lowered-gains.ensures.reached c.nearest-i.result.0 near.row near.reached in
    let column = c.raised-deal.ensures.rest c.nearest-i.result.1 near.column near.unreached in
    omega arith

pub nearest-i-requires-clause-covered : goal.nearest-i-requires-clause-covered
nearest-i-requires-clause-covered c =
    search_covered c.args.deal.now c.args.search.now c.args.n c.requires.offers c.requires.rows c.requires.search

pub slack-by-requires-clause-covered : goal.slack-by-requires-clause-covered
slack-by-requires-clause-covered c =
    search_covered c.args.deal.now c.args.search.now c.args.n c.requires.offers c.requires.rows c.requires.search

pub raised-deal-requires : goal.raised-deal-requires
raised-deal-requires c =
    let covered =
    search_covered c.args.deal.now c.args.search.now c.args.n c.requires.offers c.requires.rows c.requires.search in
    let gain = covered.gains c.nearest-i.result.0 c.nearest-i.ensures.row in
    let price = covered.prices c.nearest-i.result.1 c.nearest-i.ensures.column in
    record { small = λ k le. omega (arith, covered.prices k le) }
