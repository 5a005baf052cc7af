use Rattle.std.proofs.Common.{rules, ◌≡◌, ap, ◌∙◌, pos, to_z, of_z}
use mir.Syntax.{w64}
use Rattle.drawn_games.specs.Draws.{long_of}
use Rattle.drawn_games.proofs.Lists.{state-more, drawn, long_more}
use Rattle.drawn_games.proofs.draws.long_draws.Goals as goal

pub loop-k-preserved : goal.loop-k-preserved
loop-k-preserved c =
    let seed = c.args.seed in
    let k = c.loop-k.k in
    let at = c.loop-k.invariant in
    let value =
    c.long.ensures.value
    ∙ ap long_of (drawn seed k c.loop-k.draws.state c.long.new.self.state at.0 c.long.ensures.state) in
    let kept : to_z w64 (of_z w64 c.from.result) ≡ c.from.result = search rules in (
      state-more seed k c.loop-k.draws.state c.long.new.self.state at.0 c.long.ensures.state,
      c.long.ensures.within,
      long_more seed k c.loop-k.found.items c.push.new.self.items _ at.2 c.in_ok-push.ensures.items
          (kept ∙ c.from.ensures ∙ ap pos value),
    )
