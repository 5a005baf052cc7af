use Rattle.std.proofs.Common.{◌≡◌, false, sym, ap, ◌∙◌, rules}
use Rattle.std.specs.List.{list_all}
use Rattle.document_parts.specs.Numbers.{seen, are_worths, AreWorths}
use Rattle.document_parts.specs.Signs.{is_from_zero}
use Rattle.document_parts.proofs.Costs.{no_worths, costs_by}
use Rattle.document_parts.proofs.numbers.read_costs.Goals as goal

pub returns-in_default-clause-none : goal.returns-in_default-clause-none
returns-in_default-clause-none c =
    let none : are_worths (seen c.args.values.now) ≡ false = search rules in
    no_worths (seen c.args.values.now) none

pub returns-then-not-are_from_zero-clause-none : goal.returns-then-not-are_from_zero-clause-none
returns-then-not-are_from_zero-clause-none c =
    let read : AreWorths (seen c.args.values.now) c.in-Some.numbers.scale c.in-Some.numbers.items.items =
    search rules in
    costs_by (seen c.args.values.now) _ _ read ∙ ap (list_all is_from_zero) (sym c.deref.ensures.value)
    ∙ sym c.are_from_zero.ensures ∙ c.if-not-are_from_zero.true

pub returns-clause-within : goal.returns-clause-within
returns-clause-within c =
    let read : AreWorths (seen c.args.values.now) c.in-Some.numbers.scale c.in-Some.numbers.items.items =
    search rules in
    costs_by (seen c.args.values.now) _ _ read ∙ ap (list_all is_from_zero) (sym c.deref.ensures.value)
    ∙ sym c.are_from_zero.ensures ∙ c.if-not-are_from_zero.false
