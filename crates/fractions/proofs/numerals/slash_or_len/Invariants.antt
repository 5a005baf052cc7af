use Rattle.std.proofs.Common.{◌≤◌, ◌-◌, length}
use Rattle.fractions.specs.FractionTexts.{before_slash}
use Rattle.fractions.proofs.numerals.slash_or_len.Given as goal

abbrev pub invariant-loop-i : goal.invariant-loop-i
invariant-loop-i l = l.i ≤ before_slash l.text

abbrev pub decreases-loop-i : goal.decreases-loop-i
decreases-loop-i l = length l.text - l.i
