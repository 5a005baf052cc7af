use Rattle.std.proofs.Common.{◌≡◌, ◌++◌, ◌∷◌, [], ◌/◌, ◌*ℤ◌, ℤ, List, pos, map}
use Rattle.std.proofs.Common.{take, Some, to_z, of_z, w64, rules}
use Rattle.std.proofs.Common.{sym, ap₂, ◌∙◌, subst}
use Rattle.std.specs.Prelude.{option_and_then}
use Rattle.serde_json.specs.View.{view}
use Rattle.json_trees.specs.Fractions.{fraction_of}
use Rattle.document_parts.specs.Numbers.{seen, with_fraction}
use Rattle.document_parts.proofs.NumbersRead.{IsRead, stops, stops_in_front, goes_on, small_read, positive_read}
use Rattle.document_parts.proofs.NumbersRead.{seen_more, bad_value, all_seen}
use Rattle.document_parts.proofs.numbers.read_worths.Goals as goal

pub with_scale-requires-clause-some : goal.with_scale-requires-clause-some
with_scale-requires-clause-some c =
    positive_read (take c.loop-value.value-index (seen c.args.values.now)) c.loop-value.scale
    c.loop-value.items.items
    c.loop-value.invariant

pub returns-in_default-clause-none : goal.returns-in_default-clause-none
returns-in_default-clause-none c =
    bad_value c.args.values.now c.loop-value.value-index c.value-item.result c.loop-value-test.true
    c.value-item.is
    (stops (take c.loop-value.value-index (seen c.args.values.now)) (view c.value-item.result.now)
    c.loop-value.scale
    c.loop-value.items.items c.loop-value.invariant c.in_default.ensures.value)

pub raise-requires : goal.raise-requires
raise-requires c =
    small_read (take c.loop-value.value-index (seen c.args.values.now)) c.loop-value.scale
    c.loop-value.items.items
    c.loop-value.invariant

pub returns-then-not-raise-clause-none : goal.returns-then-not-raise-clause-none
returns-then-not-raise-clause-none c =
    let k = c.loop-value.scale in
    let d = view c.value-item.result.now in
    let e : Some (c.in-Some.common, c.in-Some.number) ≡ option_and_then (with_fraction k) (fraction_of d) =
    search rules in
    bad_value c.args.values.now c.loop-value.value-index c.value-item.result c.loop-value-test.true
    c.value-item.is
    (stops_in_front (take c.loop-value.value-index (seen c.args.values.now)) d k c.in-Some.common c.in-Some.number
    c.loop-value.items.items c.loop-value.invariant e (sym c.raise.ensures.kept ∙ c.if-not-raise.true))

pub loop-value-preserved : goal.loop-value-preserved
loop-value-preserved c =
    let i = c.loop-value.value-index in
    let vs = c.args.values.now in
    let k = c.loop-value.scale in
    let m = c.in-Some.common in
    let d = view c.value-item.result.now in
    let e : Some (m, c.in-Some.number) ≡ option_and_then (with_fraction k) (fraction_of d) = search rules in
    let kept : to_z w64 (of_z w64 c.in-Some.number) ≡ c.in-Some.number = search rules in
    let items : c.push.new.self.items
    ≡ map (λ (y : ℤ). y *ℤ pos (m / k)) c.loop-value.items.items ++ c.in-Some.number ∷ [] =
    c.in_ok-push.ensures.items
    ∙ ap₂ (λ (l : List ℤ) (y : ℤ). l ++ y ∷ []) (c.raise.ensures.numbers c.if-not-raise.false) kept in
    let read : IsRead (take i (seen vs) ++ d ∷ []) m
    (map (λ (y : ℤ). y *ℤ pos (m / k)) c.loop-value.items.items ++ c.in-Some.number ∷ []) =
    goes_on (take i (seen vs)) d k m c.in-Some.number c.loop-value.items.items c.loop-value.invariant e
    (sym c.raise.ensures.kept ∙ c.if-not-raise.false) in
    subst (λ l. IsRead l m c.push.new.self.items)
    (sym (seen_more vs i c.value-item.result c.loop-value-test.true c.value-item.is))
    (subst (IsRead (take i (seen vs) ++ d ∷ []) m) (sym items) read)

pub returns-clause-within : goal.returns-clause-within
returns-clause-within c =
    (all_seen c.args.values.now c.loop-value.value-index c.loop-value.scale c.loop-value.items.items
    c.loop-value-test.false c.loop-value.invariant).worths

pub returns-clause-numbers : goal.returns-clause-numbers
returns-clause-numbers c =
    all_seen c.args.values.now c.loop-value.value-index c.loop-value.scale c.loop-value.items.items
    c.loop-value-test.false c.loop-value.invariant
