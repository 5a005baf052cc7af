use Rattle.std.proofs.Common.{slice_index}
use Rattle.big_assignment.proofs.Leasts.{gain_less, least_fair, content_meets}
use Rattle.big_assignment.proofs.least.cheapest.Goals as goal

pub gains_at-gains-requires-clause-less : goal.gains_at-gains-requires-clause-less
gains_at-gains-requires-clause-less c =
    gain_less c.args.deal.now c.args.n (slice_index c.least_prices-prices.result) c.requires.fair
    c.least_prices-prices.ensures.below

pub returns-clause-fair : goal.returns-clause-fair
returns-clause-fair c =
    let d = c.args.deal.now in
    let q = c.least_prices-prices.result in
    least_fair d c.args.n c.gains_at-gains.result q c.requires.fair c.least_prices-prices.ensures.below
    (content_meets d c.args.n (slice_index q) c.least_prices-prices.ensures.content) c.gains_at-gains.ensures
