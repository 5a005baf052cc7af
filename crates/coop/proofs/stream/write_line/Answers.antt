use Rattle.std.proofs.Common.{rules}
use Rattle.std.proofs.Math.Seq.{take-add}
use Rattle.std.proofs.lemmas.List.{take_rest}
use Rattle.std.proofs.KnownBytes.{Appends-trans}
use Rattle.coop.proofs.stream.write_line.Goals as goal

pub writing-preserved : goal.writing-preserved
writing-preserved g c = record {
  in_line = search rules;
  taken = rw (take-add c.writing.at c.in_ok-at.field-0 c.args.line.now)
      (Appends-trans _ _ _ _ _ c.writing.invariant.taken (rw take_rest at c.in_ok-at.ensures.write.bytes));
  unchanged = search rules;
  same_sink = search rules;
}
