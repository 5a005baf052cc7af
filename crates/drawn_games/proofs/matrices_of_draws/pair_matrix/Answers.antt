use Rattle.std.proofs.Common.{ℕ, ◌≡◌, ◌+◌, ◌*◌, length, slice_index, ap, ◌∙◌, arith}
use Rattle.drawn_games.specs.Draws.{short_draw}
use Rattle.drawn_games.specs.Numbers.{rows_of, pair_value}
use Rattle.drawn_games.proofs.Lists.{row_more, rows-same, draw_read, draw_count}
use Rattle.drawn_games.proofs.Numbered.{pair-inside}
use Rattle.drawn_games.proofs.matrices_of_draws.pair_matrix.Goals as goal

pub pair_row-requires-clause-enough : goal.pair_row-requires-clause-enough
pair_row-requires-clause-enough c =
    ap length c.deref.ensures.value
    ∙ draw_count c.args.seed (c.args.rows * c.args.columns) c.in_ok-draws.draws.items c.in_ok-draws.ensures

pub loop-i-preserved : goal.loop-i-preserved
loop-i-preserved c =
    row_more (λ row. row.items) c.loop-i.i c.args.columns
    (pair_value (slice_index c.in_ok-draws.draws.items) c.args.columns) c.loop-i.matrix.items
    c.push.new.self.items c.in_ok-pair_row.field-0 c.loop-i.invariant c.in_ok-push.ensures.items
    (rw (← c.deref.ensures.value) c.in_ok-pair_row.ensures)

pub returns : goal.returns
returns c =
    let rows = c.args.rows in
    let columns = c.args.columns in
    let seed = c.args.seed in
    let draws = c.in_ok-draws.draws.items in
    let same : rows_of rows columns (pair_value (slice_index draws) columns)
    ≡ rows_of rows columns (pair_value (short_draw seed) columns) =
    rows-same rows columns (pair_value (slice_index draws) columns) (pair_value (short_draw seed) columns)
    (λ i j il jl. draw_read seed (rows * columns) (i * columns + j) draws c.in_ok-draws.ensures
    (pair-inside rows columns i j il jl)) in
    let end : c.loop-i.i ≡ rows = omega (arith, c.loop-i-test.false, c.loop-i.auto.i-end) in
    c.loop-i.invariant ∙ ap (λ (k : ℕ). rows_of k columns (pair_value (slice_index draws) columns)) end ∙ same
