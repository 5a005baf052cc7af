use Rattle.std.proofs.Common.{◌<◌, arith, subst, sym}
use Rattle.fractions.proofs.Divisors.{gcd_positive}
use Rattle.worth_core.proofs.LeastMultiples.{too_large, multiple_at}
use Rattle.worth_core.proofs.shares.fracs.common_multiple.Goals as goal

pub nonzero_div-b : goal.nonzero_div-b
nonzero_div-b c =
    subst (λ n. 0 < n) (sym c.gcd.ensures.value) (gcd_positive c.args.a c.args.b c.requires.b_positive)

pub returns-in_err-multiple : goal.returns-in_err-multiple
returns-in_err-multiple c =
    rw c.from_residual.ensures
    (λ m h. too_large c.args.a c.args.b c.gcd.result m c.requires.a_positive c.requires.b_positive
    c.gcd.ensures.value (omega (arith, c.in_err-multiple.ensures {u = tt})) h)

pub returns-then-multiple : goal.returns-then-multiple
returns-then-multiple c = λ m h.
    too_large c.args.a c.args.b c.gcd.result m c.requires.a_positive c.requires.b_positive c.gcd.ensures.value
    (omega (arith, c.in_ok-multiple.ensures {u = tt})) h

pub returns : goal.returns
returns c = (
  multiple_at c.args.a c.args.b c.gcd.result c.in_ok-multiple.multiple c.requires.a_positive
      c.requires.b_positive c.gcd.ensures.value (c.in_ok-multiple.ensures {u = tt}).1,
  omega arith,
)
