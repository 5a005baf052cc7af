use Rattle.std.proofs.Common.{false}
use Rattle.voting.specs.Candidates.{AreSmall}
use Rattle.voting.specs.SetKinds.{IsLayer}
use Rattle.voting.proofs.Blocking.{numbers}
use Rattle.voting.proofs.game.VotingGameWorth.blocker.Given as goal

abbrev pub invariant-loop-i : goal.invariant-loop-i
invariant-loop-i l = record {
  best : IsLayer (numbers l.self l.x) false false 0 l.i l.layer;
  small : AreSmall l.i l.layer;
}
