use Rattle.std.proofs.Common.{rules, ◌≡◌, ◌∙◌, pos, to_z, of_z, slice_index}
use mir.Syntax.{w64}
use Rattle.drawn_games.specs.Numbers.{pair_value}
use Rattle.drawn_games.proofs.Lists.{one_more}
use Rattle.drawn_games.proofs.matrices_of_draws.pair_row.Goals as goal

pub loop-j-preserved : goal.loop-j-preserved
loop-j-preserved c =
    let kept : to_z w64 (of_z w64 c.from.result) ≡ c.from.result = search rules in
    one_more (λ k. pos (pair_value (slice_index c.args.draws.now) c.args.columns c.args.i k)) c.loop-j.j
    c.loop-j.row.items c.push.new.self.items _ c.loop-j.invariant c.in_ok-push.ensures.items
    (kept ∙ c.from.ensures)
