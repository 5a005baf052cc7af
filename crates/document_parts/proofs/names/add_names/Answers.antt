use Rattle.std.proofs.Common.{not, sym, ◌∙◌}
use Rattle.std.proofs.lemmas.Bool.{and_parts}
use Rattle.serde_json.specs.View.{view}
use Rattle.json_trees.specs.Trees.{text_of}
use Rattle.document_parts.specs.Names.{is_name}
use Rattle.json_trees.specs.Keys.{is_among}
use Rattle.document_parts.proofs.NamesRead.{stop, go_on}
use Rattle.document_parts.proofs.names.add_names.Goals as goal

pub returns-then-not-branch-clause-good : goal.returns-then-not-branch-clause-good
returns-then-not-branch-clause-good c =
    let bad = sym c.in_ok-add_name.ensures.added ∙ c.if-not-branch.true in
    sym
    (stop c.args.values.now c.loop-value.value-index c.loop-value.names c.value-item.result c.loop-value.invariant
    c.loop-value-test.true c.value-item.is bad)

pub loop-value-preserved : goal.loop-value-preserved
loop-value-preserved c =
    let t = text_of (view c.value-item.result) in
    let both =
    and_parts (is_name t) (not (is_among c.loop-value.names t))
    (sym c.in_ok-add_name.ensures.added ∙ c.if-not-branch.false) in
    go_on c.args.values.now c.loop-value.value-index c.loop-value.names c.add_name.new.names c.value-item.result
    c.loop-value.invariant c.loop-value-test.true c.value-item.is both.0 both.1
    (rw c.if-not-branch.false at c.in_ok-add_name.ensures.names)
