use Rattle.separation.proofs.FirstFound.{some_improves, none_found}
use Rattle.separation.proofs.pricing.some_by_sums.Goals as goal

pub returns-in_err-s : goal.returns-in_err-s
returns-in_err-s g c =
    rw c.from_residual.ensures (none_found c.args.scan.now c.in_default.ensures (c.in_err-s.ensures {u = tt}))

pub returns : goal.returns
returns g c =
    rw c.s.view_is (some_improves c.args.scan.now c.in_ok-s.s (c.in_ok-s.ensures {u = tt}))
