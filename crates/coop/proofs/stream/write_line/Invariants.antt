use Rattle.std.proofs.Common.{◌≡◌, ◌-◌, ◌≤◌, length, take}
use Rattle.std.specs.Io.KnownBytes.{Appends}
use Rattle.coop.proofs.stream.write_line.Given as goal

abbrev pub invariant-writing : goal.invariant-writing
invariant-writing g l = record {
  in_line : l.at ≤ length l.line;
  taken : Appends (g.K.Sink.taken l.initial.sink) (g.K.Sink.taken l.sink) (take l.at l.line);
  unchanged : g.K.Sink.faults l.sink ≡ g.K.Sink.faults l.initial.sink;
  same_sink : g.K.Sink.mark l.sink ≡ g.K.Sink.mark l.initial.sink;
}

abbrev pub decreases-writing : goal.decreases-writing
decreases-writing g l = length l.line - l.at
