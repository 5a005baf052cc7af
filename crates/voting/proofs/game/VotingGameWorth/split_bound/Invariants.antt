use Rattle.voting.specs.SetKinds.{AreSplitLayers, AreSmallLayers}
use Rattle.voting.proofs.Blocking.{numbers}
use Rattle.voting.proofs.game.VotingGameWorth.split_bound.Given as goal

abbrev pub invariant-loop-i : goal.invariant-loop-i
invariant-loop-i l = record {
  best : AreSplitLayers (numbers l.self l.x) l.free l.i l.layers;
  small : AreSmallLayers l.i l.layers;
}
