use Rattle.std.proofs.Common.{true, false, arith}
use Rattle.definitions.proofs.Casts.{cast_kept}
use Rattle.voting.proofs.Layers.{IsLayer-step}
use mir.Syntax.{w128}
use Rattle.voting.proofs.split_layers.SplitLayers.add_free.Goals as goal

pub returns-clause-layers : goal.returns-clause-layers
returns-clause-layers c = λ m f lt is heavy worth h.
    let ls = c.args.self.now in
    let i = c.args.i in
    let w = c.args.weight in
    let z = c.args.number in
    let kept = cast_kept w128 z (omega arith) in
    record {
      any =
          IsLayer-step m false false true f i w z _ ls.any ls.any c.add_player.new.self lt is heavy worth kept h.any
          h.any c.add_player.ensures.entries;
      holding =
          IsLayer-step m true false true f i w z _ ls.holding ls.any c.join-3.new.self lt is heavy worth kept
          h.holding h.any c.join-3.ensures.entries;
      lacking =
          IsLayer-step m false true true f i w z _ ls.any ls.lacking c.join-2.new.self lt is heavy worth kept h.any
          h.lacking c.join-2.ensures.entries;
      both =
          IsLayer-step m true true true f i w z _ ls.holding ls.lacking c.join.new.self lt is heavy worth kept
          h.holding h.lacking c.join.ensures.entries;
    }
