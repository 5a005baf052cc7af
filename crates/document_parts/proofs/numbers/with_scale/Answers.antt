use Rattle.std.proofs.Common.{ap, ◌∙◌}
use Rattle.std.specs.Prelude.{option_and_then}
use Rattle.serde_json.specs.View.{view}
use Rattle.json_trees.specs.Fractions.{written_fraction}
use Rattle.json_trees.specs.Trees.{integer}
use Rattle.document_parts.specs.Numbers.{with_fraction}
use Rattle.document_parts.proofs.CommonScales.{whole_step}
use Rattle.document_parts.proofs.numbers.with_scale.Goals as goal

pub returns-in-None-clause-value : goal.returns-in-None-clause-value
returns-in-None-clause-value c =
    let d = view c.args.value.now in
    c.whole_with_scale.ensures.value ∙ whole_step c.args.scale (integer d) c.requires.some c.requires.few
    ∙ ap (λ o. option_and_then (with_fraction c.args.scale) (written_fraction d o)) c.in-None.ensures
