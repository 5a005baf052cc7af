use Rattle.std.proofs.Common.{ℕ, ◌≡◌, ◌+◌, ◌<◌, length, slice_index, ap, ◌∙◌, arith}
use Rattle.drawn_games.specs.Draws.{short_draw}
use Rattle.drawn_games.specs.Numbers.{rows_of, link, links_before}
use Rattle.drawn_games.proofs.Lists.{row_more, rows-same, draw_read, draw_count}
use Rattle.drawn_games.proofs.Numbered.{link-same}
use Rattle.drawn_games.proofs.matrices_of_draws.link_matrix.Goals as goal

pub link_row-requires-clause-enough : goal.link_row-requires-clause-enough
link_row-requires-clause-enough c =
    ap length c.deref.ensures.value
    ∙ draw_count c.args.seed c.links_before.result c.in_ok-draws.draws.items c.in_ok-draws.ensures
    ∙ c.links_before.ensures.value

pub loop-i-preserved : goal.loop-i-preserved
loop-i-preserved c =
    row_more (λ row. row.items) c.loop-i.i (c.args.n + 1) (link (slice_index c.in_ok-draws.draws.items) c.args.n)
    c.loop-i.matrix.items c.push.new.self.items c.in_ok-link_row.field-0 c.loop-i.invariant
    c.in_ok-push.ensures.items (rw (← c.deref.ensures.value) c.in_ok-link_row.ensures)

pub returns : goal.returns
returns c =
    let n = c.args.n in
    let seed = c.args.seed in
    let draws = c.in_ok-draws.draws.items in
    let count = c.links_before.ensures.value in
    let read : (k : ℕ) → k < links_before n n → slice_index draws k ≡ short_draw seed k =
    λ k lt. draw_read seed c.links_before.result k draws c.in_ok-draws.ensures (omega (arith, count, lt)) in
    let same : rows_of (n + 1) (n + 1) (link (slice_index draws) n)
    ≡ rows_of (n + 1) (n + 1) (link (short_draw seed) n) =
    rows-same (n + 1) (n + 1) (link (slice_index draws) n) (link (short_draw seed) n)
    (λ i j il jl. link-same (slice_index draws) (short_draw seed) n i j read (omega arith) (omega arith)) in
    let end : c.loop-i.i ≡ n + 1 = omega (arith, c.loop-i-test.false, c.loop-i.auto.i-end) in
    c.loop-i.invariant ∙ ap (λ (k : ℕ). rows_of k (n + 1) (link (slice_index draws) n)) end ∙ same
