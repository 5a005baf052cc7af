use Rattle.std.proofs.Common.{◌≡◌, ◌<◌, length, ap, sym, ◌∙◌, arith}
use Rattle.std.proofs.lemmas.Int.{ints, to_z-of_z}
use Rattle.definitions.proofs.Casts.{cast_kept}
use Rattle.voting.specs.Voting.{Voting, voting_game}
use Rattle.voting.proofs.Blocking.{numbers, some_splits, split-best, read-split, weight-read}
use Rattle.definitions.specs.Games.{excess}
use mir.Syntax.{w128}
use Rattle.voting.proofs.game.VotingGameWorth.split_bound.Goals as goal

pub loop-i-init : goal.loop-i-init
loop-i-init c = record {
  best = c.of_nobody-layers.ensures.layers (numbers c.args.self.now c.args.x.now) c.args.free;
  small = c.of_nobody-layers.ensures.small;
}

pub loop-i-preserved : goal.loop-i-preserved
loop-i-preserved c =
    let g = c.args.self.now in
    let x = c.args.x.now in
    let i = c.loop-i.i in
    let lt : i < length g.weights = omega arith in
    let weight =
    weight-read g c.self.inside.quota c.self.inside.weights.items i c.index.result.now c.self.view_is lt
    c.index.ensures in
    let kept = cast_kept w128 c.owed.result (omega arith) in
    record {
      best =
          c.add_player.ensures.layers (numbers g x) c.args.free lt (sym c.contains.ensures) weight
          (sym c.owed.ensures.value ∙ sym kept) c.loop-i.invariant.best;
      small = c.add_player.ensures.small;
    }

pub sum_of-requires : goal.sum_of-requires
sum_of-requires c =
    let g = c.args.self.now in
    let x = c.args.x.now in
    let end : c.loop-i.i ≡ length g.weights =
    omega arith in
    let laws = rw c.self.view_is at c.self.invariant in
    let quota = ap (λ (v : Voting). v.quota) c.self.view_is in
    let den =
    cast_kept w128 c.den.result (omega (arith, ints))
    ∙ c.den.ensures.value in
    some_splits (length g.weights) c.args.free (excess (voting_game g) x) c.best.result c.requires.two
    (read-split g x c.args.free c.loop-i.layers.both c.self.inside.quota c.loop-i.i _ c.best.result laws
    c.requires.shares quota den end c.loop-i.invariant.best.both c.best.ensures)

pub returns : goal.returns
returns c =
    let g = c.args.self.now in
    let x = c.args.x.now in
    let end : c.loop-i.i ≡ length g.weights =
    omega arith in
    let laws = rw c.self.view_is at c.self.invariant in
    let quota = ap (λ (v : Voting). v.quota) c.self.view_is in
    let den =
    cast_kept w128 c.den.result (omega (arith, ints))
    ∙ c.den.ensures.value in
    let best =
    read-split g x c.args.free c.loop-i.layers.both c.self.inside.quota c.loop-i.i _ c.best.result laws
    c.requires.shares quota den end c.loop-i.invariant.best.both c.best.ensures in
    let kept = to_z-of_z w128 c.sum_of.result (record { sfits = c.sum_of.type_inv }) in
    rw kept (split-best (voting_game g) x c.args.free c.best.result c.sum_of.result
    (some_splits (length g.weights) c.args.free (excess (voting_game g) x) c.best.result c.requires.two best)
    c.sum_of.ensures best)
