use Rattle.std.proofs.Common.{◌≡◌, length, map, option_map, IfOk, sym, ◌∙◌, subst}
use Rattle.std.proofs.lemmas.List.{length-map}
use Rattle.serde_json.specs.View.{view}
use Rattle.document_parts.specs.Scales.{scale_of}
use Rattle.game_text.proofs.GivenNumbers.{all_listed, enough_for, paired_table}
use Rattle.game_text.proofs.classes.table_class.table_numbers.Goals as goal

pub returns-in-None : goal.returns-in-None
returns-in-None c =
    all_listed (scale_of (view c.args.game.now)) c.args.count c.args.names.now (view c.args.game.now)
    c.args.numbers.items
    c.requires.shaped c.requires.numbers (sym c.in-None.ensures)

pub sparse_numbers-requires-clause-each : goal.sparse_numbers-requires-clause-each
sparse_numbers-requires-clause-each c =
    enough_for (scale_of (view c.args.game.now)) c.args.count c.args.names.now (view c.args.game.now)
    c.deref.result.now c.requires.shaped (c.deref.ensures.value ∙ c.requires.numbers) (view c.in-Some.pairs.now)
    (sym c.in-Some.ensures) (map view c.parts.result.now) (length c.parts.result.now) c.parts.ensures
    (sym (length-map c.parts.result.now view))

pub returns-in-Some : goal.returns-in-Some
returns-in-Some c =
    subst (λ r. IfOk c.sparse_numbers.result (λ o. option_map (λ v. v.items) o ≡ r))
    (paired_table (scale_of (view c.args.game.now)) c.args.count c.args.names.now (view c.args.game.now)
    c.deref.result.now c.requires.shaped (c.deref.ensures.value ∙ c.requires.numbers) (view c.in-Some.pairs.now)
    (sym c.in-Some.ensures) (map view c.parts.result.now) (length c.parts.result.now) c.parts.ensures
    (sym (length-map c.parts.result.now view)))
    c.sparse_numbers.ensures
