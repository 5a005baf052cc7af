use Rattle.std.proofs.Common.{arith, ◌∙◌}
use Rattle.drawn_games.specs.Numbers.{long_draws}
use Rattle.drawn_games.proofs.Sizes.{long_count, long_costs, pos-same}
use Rattle.drawn_games.proofs.games.airport.Goals as goal

pub unreachable-requires : goal.unreachable-requires
unreachable-requires c =
    let count = long_count c.args.seed c.args.n c.in_ok-costs.costs.items c.in_ok-costs.ensures in
    (rw c.in-Err-Players.field-0-is at c.in-Err-Players.ensures)
    (omega (arith, count, c.requires.some), omega (arith, count, c.requires.few))

pub unreachable-requires-in-Err-Number : goal.unreachable-requires-in-Err-Number
unreachable-requires-in-Err-Number c =
    (rw c.in-Err-Number.field-0-is at c.in-Err-Number.ensures).2
    (long_costs c.args.seed c.args.n c.in_ok-costs.costs.items c.in_ok-costs.ensures)

pub returns-in-Ok : goal.returns-in-Ok
returns-in-Ok c =
    pos-same c.in-Ok.game.costs (long_draws c.args.seed c.args.n) (c.in-Ok.ensures ∙ c.in_ok-costs.ensures)
