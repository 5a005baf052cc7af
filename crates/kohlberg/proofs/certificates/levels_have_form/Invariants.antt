use Rattle.kohlberg.proofs.FormScan.{SameForm}
use Rattle.kohlberg.proofs.certificates.levels_have_form.Given as goal

abbrev pub invariant-loop-i : goal.invariant-loop-i
invariant-loop-i l = SameForm l.n l.levels l.i
