use Rattle.std.proofs.Common.{ap, ◌∙◌}
use Rattle.drawn_games.specs.Draws.{short_of, short_draw}
use Rattle.drawn_games.proofs.Lists.{state-more, drawn, one_more}
use Rattle.drawn_games.proofs.draws.short_draws.Goals as goal

pub loop-k-preserved : goal.loop-k-preserved
loop-k-preserved c =
    let seed = c.args.seed in
    let k = c.loop-k.k in
    let at = c.loop-k.invariant in
    let value =
    c.short.ensures.value
    ∙ ap short_of (drawn seed k c.loop-k.draws.state c.short.new.self.state at.0 c.short.ensures.state) in (
      state-more seed k c.loop-k.draws.state c.short.new.self.state at.0 c.short.ensures.state,
      c.short.ensures.within,
      one_more (short_draw seed) k c.loop-k.found.items c.push.new.self.items c.short.result at.2
          c.in_ok-push.ensures.items value,
    )
