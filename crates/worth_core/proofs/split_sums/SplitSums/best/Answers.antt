use Rattle.std.proofs.Common.{ap}
use Rattle.worth_core.specs.SplitKinds.{Sums}
use Rattle.worth_core.proofs.SplitSteps.{IsGreatestSum-others_free}
use Rattle.worth_core.proofs.split_sums.SplitSums.best.Goals as goal

pub returns-then-others_free-clause-sum : goal.returns-then-others_free-clause-sum
returns-then-others_free-clause-sum c = λ n a f seen h.
    let holding = ap (λ (s : Sums). s.holding) c.self.view_is in
    let both = ap (λ (s : Sums). s.both) c.self.view_is in
    rw (c.if-others_free.true, c.greater.ensures, holding, both)
    (IsGreatestSum-others_free n a f seen c.args.self.now h)
