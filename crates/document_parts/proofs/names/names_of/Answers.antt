use Rattle.serde_json.specs.View.{view}
use Rattle.document_parts.proofs.NamesRead.{names_from}
use Rattle.document_parts.proofs.names.names_of.Goals as goal

pub returns-clause-names : goal.returns-clause-names
returns-clause-names c =
    rw (← c.in-Some.ensures)
    (rw
    (names_from c.parts-values.result.now (view c.in-Some.value.now) c.args.players c.parts-values.ensures
    c.if-values-players.false) c.read_names.ensures)
