use Rattle.std.proofs.Common.{◌≡◌, ◌<◌, false, length, ap, sym, ◌∙◌, arith}
use Rattle.std.proofs.lemmas.Int.{ints}
use Rattle.definitions.proofs.Members.{has_player-empty}
use Rattle.definitions.proofs.Casts.{cast_kept}
use Rattle.voting.specs.Voting.{Voting, voting_game}
use Rattle.voting.proofs.Layers.{IsLayer-nobody, IsLayer-step}
use Rattle.voting.proofs.Blocking.{numbers, blocker-best, read-all, weight-read}
use mir.Syntax.{w128}
use Rattle.voting.proofs.game.VotingGameWorth.blocker.Goals as goal

pub loop-i-init : goal.loop-i-init
loop-i-init c = record {
  best =
      IsLayer-nobody (numbers c.args.self.now c.args.x.now) 0 c.of_nobody-layer.result
      c.of_nobody-layer.ensures.nobody c.of_nobody-layer.ensures.others;
  small = c.of_nobody-layer.ensures.small;
}

pub loop-i-preserved : goal.loop-i-preserved
loop-i-preserved c =
    let g = c.args.self.now in
    let x = c.args.x.now in
    let i = c.loop-i.i in
    let z = c.owed.result in
    let lt : i < length g.weights = omega arith in
    let weight =
    weight-read g c.self.inside.quota c.self.inside.weights.items i c.index.result.now c.self.view_is lt
    c.index.ensures in
    let kept = cast_kept w128 z (omega arith) in
    let best = c.loop-i.invariant.best in
    record {
      best =
          IsLayer-step (numbers g x) false false false 0 i c.index.result.now z _ c.loop-i.layer c.loop-i.layer
          c.add_player.new.self lt (has_player-empty i) weight (sym c.owed.ensures.value) kept best best
          c.add_player.ensures.entries;
      small = c.add_player.ensures.small;
    }

pub returns : goal.returns
returns c =
    let g = c.args.self.now in
    let x = c.args.x.now in
    let end : c.loop-i.i ≡ length g.weights =
    omega arith in
    let laws = rw c.self.view_is at c.self.invariant in
    let quota = ap (λ (v : Voting). v.quota) c.self.view_is in
    let den =
    cast_kept w128 c.den.result (omega (arith, ints))
    ∙ c.den.ensures.value in
    blocker-best (voting_game g) x c.best.result c.chosen.result
    (read-all g x c.loop-i.layer c.self.inside.quota c.loop-i.i _ c.best.result laws c.requires quota den end
    c.loop-i.invariant.best c.best.ensures) c.chosen.ensures
