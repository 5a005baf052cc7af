use Rattle.std.proofs.Common.{◌≡◌, ◌++◌, replicate}
use Rattle.airport_scheme.proofs.payments.grow.Given as goal

abbrev pub invariant-loop-d : goal.invariant-loop-d
invariant-loop-d l = l.pay.items ≡ l.initial.pay.items ++ replicate l.d l.rate
