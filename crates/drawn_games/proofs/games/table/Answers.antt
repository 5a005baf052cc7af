use Rattle.drawn_games.proofs.Sizes.{table_sizes}
use Rattle.drawn_games.proofs.games.table.Goals as goal

pub unreachable-requires : goal.unreachable-requires
unreachable-requires c =
    (rw c.in-Err-Players.field-0-is at c.in-Err-Players.ensures)
    (table_sizes c.args.seed c.args.n c.in_ok-numbers.numbers.items c.requires.some c.requires.few
    c.in_ok-numbers.ensures).whole

pub unreachable-requires-in-Err-Number : goal.unreachable-requires-in-Err-Number
unreachable-requires-in-Err-Number c =
    (rw c.in-Err-Number.field-0-is at c.in-Err-Number.ensures).1
    (table_sizes c.args.seed c.args.n c.in_ok-numbers.numbers.items c.requires.some c.requires.few
    c.in_ok-numbers.ensures).small
