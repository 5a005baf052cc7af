use Rattle.fractions.proofs.Slashes.{slash_further, slash_here, slash_nowhere}
use Rattle.fractions.proofs.numerals.slash_or_len.Goals as goal

pub loop-i-preserved : goal.loop-i-preserved
loop-i-preserved c =
    slash_further c.args.text.now c.loop-i.i c.loop-i.invariant c.loop-i-test.true c.if-text-i-ne47.true

pub returns-else-text-i-ne47 : goal.returns-else-text-i-ne47
returns-else-text-i-ne47 c = slash_here c.args.text.now c.loop-i.i c.loop-i.invariant c.if-text-i-ne47.false

pub returns-after-loop-i : goal.returns-after-loop-i
returns-after-loop-i c = slash_nowhere c.args.text.now c.loop-i.i c.loop-i.invariant c.loop-i-test.false
