use Rattle.std.proofs.Common.{◌+◌, ◌∙◌, ◌∷◌, arith, sym, ap, length}
use Rattle.coalitions.specs.GrayOrder.{steps_from}
use Rattle.coalitions.proofs.GrayOrder.{steps_next, still_upcoming}
use Rattle.coalitions.proofs.gray.GrayIterator.next.Goals as goal

pub returns-clause-steps : goal.returns-clause-steps
returns-clause-steps c =
    let k = c.self.inside.upcoming in
    let n = c.self.inside.players in
    sym c.self.view_is ∙ steps_next n k (still_upcoming n k c.self.invariant.0 c.self.invariant.1 c.if-self.false)
    ∙ ap (λ s. s ∷ steps_from n (k + 1)) (sym c.at-step.ensures)

pub returns-clause-goes : goal.returns-clause-goes
returns-clause-goes c =
    let steps = ap length (returns-clause-steps c) in
    record { on = λ f. (tt, tt, omega (arith, steps)); keeps = tt; rests = λ f. tt }
