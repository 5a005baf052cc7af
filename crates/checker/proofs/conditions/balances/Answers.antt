use Rattle.std.proofs.Common.{◌∙◌, ap, ℕ, ℤ, List, FitsSigned, rules}
use mir.Syntax.{w128}
use Rattle.definitions.specs.Coalitions.{weight_at}
use Rattle.definitions.specs.Certificates.{Level, number_at}
use Rattle.checker.proofs.Values.{same_sum}
use Rattle.checker.proofs.conditions.balances.Goals as goal

pub returns : goal.returns
returns c =
    let i = c.args.i in
    let coalitions =
    c.weights_at-coalitions.ensures.value
    ∙ ap (λ (ps : List (ℕ × ℤ)). weight_at ps i)
    (c.deref.ensures.value ∙ ap (λ (l : Level). l.coalitions) c.level.view_is) in
    let earlier =
    c.weights_at-earlier.ensures.value
    ∙ ap (λ (ps : List (ℕ × ℤ)). weight_at ps i)
    (c.deref-2.ensures.value ∙ ap (λ (l : Level). l.earlier) c.level.view_is) in
    let bounds =
    c.bounds_at-bounds.ensures.value
    ∙ ap (λ (ps : List (ℕ × ℤ)). number_at ps i)
    (c.deref-3.ensures.value ∙ ap (λ (l : Level). l.bounds) c.level.view_is) in
    let total = ap (λ (l : Level). l.total) c.level.view_is in
    let fits : FitsSigned w128 c.level.inside.total = search rules in
    rw (← coalitions, ← earlier, ← bounds, ← total)
    (same_sum c.weights_at-coalitions.result c.weights_at-earlier.result c.bounds_at-bounds.result
    c.level.inside.total c.weights_at-coalitions.ensures.small c.weights_at-earlier.ensures.small
    c.bounds_at-bounds.ensures.small fits)
