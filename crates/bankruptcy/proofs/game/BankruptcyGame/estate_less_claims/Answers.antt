use Rattle.std.proofs.Common.{◌∙◌, ◌-ℤ◌, ℤ, pos, length, sym, ap, arith}
use Rattle.bankruptcy.specs.Arms.{estate_less_claims}
use Rattle.bankruptcy.proofs.Totals.{difference_kept, sum_of_all}
use Rattle.bankruptcy.proofs.game.BankruptcyGame.estate_less_claims.Goals as goal

pub returns-clause-value : goal.returns-clause-value
returns-clause-value c =
    let estate = c.self.inside.estate in
    let claims = c.self.inside.claims.items in
    let all =
    sum_of_all c.deref.result.now claims c.all-everyone.result c.len.result c.sum_of.result
    c.sum_of.ensures.value c.deref.ensures.value c.all-everyone.ensures
    (c.len.ensures ∙ sym c.deref.ensures.len ∙ ap length c.deref.ensures.value) in
    difference_kept estate c.sum_of.result (omega (arith, c.self.invariant.estate_small))
    (omega (arith, c.sum_of.ensures.small))
    ∙ ap (λ (z : ℤ). pos estate -ℤ z) all
    ∙ ap estate_less_claims c.self.view_is
