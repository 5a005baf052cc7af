use Rattle.std.proofs.Common.{map}
use Rattle.drawn_games.proofs.Sizes.{tree_sizes}
use Rattle.drawn_games.proofs.games.tree.Goals as goal

pub unreachable-requires : goal.unreachable-requires
unreachable-requires c =
    (rw c.in-Err-Players.field-0-is at c.in-Err-Players.ensures)
    (tree_sizes c.args.seed c.args.n (map (λ row. row.items) c.in_ok-matrix.matrix.items) c.requires.some
    c.requires.few c.in_ok-matrix.ensures).points

pub unreachable-requires-in-Err-Number : goal.unreachable-requires-in-Err-Number
unreachable-requires-in-Err-Number c =
    (rw c.in-Err-Number.field-0-is at c.in-Err-Number.ensures).1
    (tree_sizes c.args.seed c.args.n (map (λ row. row.items) c.in_ok-matrix.matrix.items) c.requires.some
    c.requires.few c.in_ok-matrix.ensures).entries

pub unreachable-requires-in-Err-Matrix : goal.unreachable-requires-in-Err-Matrix
unreachable-requires-in-Err-Matrix c =
    (rw c.in-Err-Matrix.field-0-is at c.in-Err-Matrix.ensures).2
    (tree_sizes c.args.seed c.args.n (map (λ row. row.items) c.in_ok-matrix.matrix.items) c.requires.some
    c.requires.few c.in_ok-matrix.ensures).links
