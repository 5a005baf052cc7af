use Rattle.std.proofs.Common.{inr}
use Rattle.test_solvers.proofs.nested_programs_tests.is_certified.Goals as goal

pub check-requires-clause-measurable : goal.check-requires-clause-measurable
check-requires-clause-measurable c = inr c.requires.few
