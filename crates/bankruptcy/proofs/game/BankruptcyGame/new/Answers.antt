use Rattle.std.proofs.Common.{◌≡◌, All, to_z, of_z, unsigned_abs, sym, ap, subst, ◌∙◌, rules}
use Rattle.std.specs.List.{sum_by}
use Rattle.std.proofs.lemmas.Bool.{false≢true}
use mir.Syntax.{w64}
use Rattle.orders.specs.Numbers.{IsNumber}
use Rattle.bankruptcy.specs.Bankruptcy.{AreNumbers}
use Rattle.bankruptcy.proofs.Estates.{have_players, same_estate, above_claims, not_above_claims, is_bankruptcy}
use Rattle.bankruptcy.proofs.game.BankruptcyGame.new.Goals as goal

pub returns-then-not-are_numbers : goal.returns-then-not-are_numbers
returns-then-not-are_numbers c =
    let cs = c.args.claims in
    let estate = c.args.estate in
    let z = to_z w64 (of_z w64 estate) in
    let kept : z ≡ estate = search rules in
    let players =
    have_players cs.items cs.len c.len.result c.is_empty.result cs.ok.0 c.is_empty.ensures c.if-is_empty.false
    c.len.ensures c.if-len-gt64.false in
    let asked : AreNumbers estate cs.items → AreNumbers z c.deref.result.now =
    λ h. rw (kept, c.deref.ensures.value) h in
    (players, λ h. false≢true (sym c.if-not-are_numbers.true ∙ c.are_numbers.ensures.1 (asked h)))

pub total-requires-clause-small : goal.total-requires-clause-small
total-requires-clause-small c =
    let cs = c.args.claims in
    let estate = c.args.estate in
    let z = to_z w64 (of_z w64 estate) in
    let kept : z ≡ estate = search rules in
    let numbers : AreNumbers estate cs.items =
    rw (kept, c.deref.ensures.value) at (c.are_numbers.ensures.0 c.if-not-are_numbers.false) in
    subst (All IsNumber) (sym c.deref-2.ensures.value) numbers.1

pub returns-then-total-estate : goal.returns-then-total-estate
returns-then-total-estate c =
    let cs = c.args.claims in
    let estate = c.args.estate in
    let z = to_z w64 (of_z w64 estate) in
    let kept : z ≡ estate = search rules in
    let players =
    have_players cs.items cs.len c.len.result c.is_empty.result cs.ok.0 c.is_empty.ensures c.if-is_empty.false
    c.len.ensures c.if-len-gt64.false in
    let numbers : AreNumbers estate cs.items =
    rw (kept, c.deref.ensures.value) at (c.are_numbers.ensures.0 c.if-not-are_numbers.false) in
    let sums = c.total.ensures ∙ ap (sum_by unsigned_abs) c.deref-2.ensures.value in
    (players, numbers, above_claims estate z cs.items c.total.result kept numbers.0 sums c.if-total-estate.true)

pub naturals-requires : goal.naturals-requires
naturals-requires c =
    let cs = c.args.claims in
    let estate = c.args.estate in
    let z = to_z w64 (of_z w64 estate) in
    let kept : z ≡ estate = search rules in
    let numbers : AreNumbers estate cs.items =
    rw (kept, c.deref.ensures.value) at (c.are_numbers.ensures.0 c.if-not-are_numbers.false) in
    subst (All IsNumber) (sym c.deref-3.ensures.value) numbers.1

pub returns-in_default : goal.returns-in_default
returns-in_default c =
    let cs = c.args.claims in
    let estate = c.args.estate in
    let z = to_z w64 (of_z w64 estate) in
    let kept : z ≡ estate = search rules in
    let players =
    have_players cs.items cs.len c.len.result c.is_empty.result cs.ok.0 c.is_empty.ensures c.if-is_empty.false
    c.len.ensures c.if-len-gt64.false in
    let numbers : AreNumbers estate cs.items =
    rw (kept, c.deref.ensures.value) at (c.are_numbers.ensures.0 c.if-not-are_numbers.false) in
    let sums = c.total.ensures ∙ ap (sum_by unsigned_abs) c.deref-2.ensures.value in (
      players,
      numbers,
      not_above_claims estate z cs.items c.total.result kept numbers.0 sums c.if-total-estate.false,
    )

pub invariant_of-result : goal.invariant_of-result
invariant_of-result c =
    let cs = c.args.claims in
    let estate = c.args.estate in
    let z = to_z w64 (of_z w64 estate) in
    let kept : z ≡ estate = search rules in
    let players =
    have_players cs.items cs.len c.len.result c.is_empty.result cs.ok.0 c.is_empty.ensures c.if-is_empty.false
    c.len.ensures c.if-len-gt64.false in
    let numbers : AreNumbers estate cs.items =
    rw (kept, c.deref.ensures.value) at (c.are_numbers.ensures.0 c.if-not-are_numbers.false) in
    let sums = c.total.ensures ∙ ap (sum_by unsigned_abs) c.deref-2.ensures.value in
    is_bankruptcy estate z cs.items c.total.result kept numbers.0 sums c.in-Ok.claims.items
    (c.in-Ok.ensures.0 ∙ c.deref-3.ensures.value) c.in-Ok.ensures.1 players c.if-total-estate.false

pub returns : goal.returns
returns c =
    let cs = c.args.claims in
    let estate = c.args.estate in
    let z = to_z w64 (of_z w64 estate) in
    let kept : z ≡ estate = search rules in
    let numbers : AreNumbers estate cs.items =
    rw (kept, c.deref.ensures.value) at (c.are_numbers.ensures.0 c.if-not-are_numbers.false) in
    let sums = c.total.ensures ∙ ap (sum_by unsigned_abs) c.deref-2.ensures.value in
    (same_estate estate z cs.items c.total.result kept numbers.0 sums, c.in-Ok.ensures.0 ∙ c.deref-3.ensures.value)
