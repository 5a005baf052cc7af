use Rattle.std.proofs.Common.{true, false, arith}
use Rattle.definitions.proofs.Casts.{cast_kept}
use Rattle.voting.proofs.Layers.{IsLayer-step}
use mir.Syntax.{w128}
use Rattle.voting.proofs.split_layers.SplitLayers.add_other.Goals as goal

pub returns-clause-layers : goal.returns-clause-layers
returns-clause-layers c = λ m f lt is heavy worth h.
    let ls = c.args.self.now in
    let i = c.args.i in
    let w = c.args.weight in
    let z = c.args.number in
    let kept = cast_kept w128 z (omega arith) in
    record {
      any =
          IsLayer-step m false false false f i w z _ ls.any ls.any c.add_player.new.self lt is heavy worth kept h.any
          h.any c.add_player.ensures.entries;
      holding =
          IsLayer-step m true false false f i w z _ ls.holding ls.holding c.add_player-2.new.self lt is heavy worth
          kept h.holding h.holding c.add_player-2.ensures.entries;
      lacking =
          IsLayer-step m false true false f i w z _ ls.lacking ls.lacking c.add_player-3.new.self lt is heavy worth
          kept h.lacking h.lacking c.add_player-3.ensures.entries;
      both =
          IsLayer-step m true true false f i w z _ ls.both ls.both c.add_player-4.new.self lt is heavy worth kept
          h.both h.both c.add_player-4.ensures.entries;
    }
