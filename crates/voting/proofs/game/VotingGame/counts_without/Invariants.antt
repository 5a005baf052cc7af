use Rattle.std.proofs.Common.{slice_index}
use Rattle.voting.specs.Counts.{HasRows, IsTable}
use Rattle.voting.proofs.game.VotingGame.counts_without.Given as goal

abbrev pub invariant-loop-j : goal.invariant-loop-j
invariant-loop-j l = record {
  full : HasRows l.table;
  counts : IsTable (slice_index l.self.weights) l.i l.j l.table;
}
