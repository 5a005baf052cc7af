use Rattle.std.proofs.Common.{◌+◌, ◌*◌, ℤ, Option, None, arith}
use Rattle.std.proofs.lemmas.List.{get_or-replicate}
use Rattle.kernel_test.proofs.surpluses.Surpluses.none.Goals as goal

pub returns-clause-empty : goal.returns-clause-empty
returns-clause-empty c = λ i j hi hj. get_or-replicate {A = Option ℤ} 256 (16 * i + j) None None (omega arith)
