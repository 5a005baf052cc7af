use Rattle.std.proofs.Common.{◌≡◌, Some, sym, ap, ◌∙◌, subst}
use Rattle.std.specs.List.{list_all}
use Rattle.serde_json.specs.View.{view}
use Rattle.definitions.specs.Certificates.{HasForm}
use Rattle.certificate_texts.specs.Shape.{mode_of}
use Rattle.certificate_texts.specs.Certificates.{is_written, level_trees, levels_of}
use Rattle.json_trees.proofs.Readings.{was_read}
use Rattle.certificate_texts.proofs.FormTests.{formed, malformed}
use Rattle.certificate_texts.proofs.certificates.certificate_of.Goals as goal

pub returns-in-Ok : goal.returns-in-Ok
returns-in-Ok c =
    let k = c.args.scale in
    let n = c.args.n in
    let tree = view c.args.tree.now in
    let named : mode_of tree ≡ Some c.in-Some.mode = sym c.mode_of.ensures ∙ c.in-Some.is in
    let levels = was_read (list_all (is_written k n) (level_trees tree)) (levels_of k n tree) c.in-Some-2.levels.items
    (rw c.in-Some-2.is at c.in_ok-levels.ensures) in
    formed k n c.in-Some.mode tree named c.in-Ok.certificate levels.0
    (c.in-Ok.ensures.0 ∙ ap (λ ls. record { players = n; mode = c.in-Some.mode; levels = ls }) levels.1)
    (subst (HasForm c.in-Some.mode n) levels.1 c.in-Ok.ensures.1)

pub returns-in-Err : goal.returns-in-Err
returns-in-Err c =
    let k = c.args.scale in
    let n = c.args.n in
    let tree = view c.args.tree.now in
    let named : mode_of tree ≡ Some c.in-Some.mode = sym c.mode_of.ensures ∙ c.in-Some.is in
    let levels = was_read (list_all (is_written k n) (level_trees tree)) (levels_of k n tree) c.in-Some-2.levels.items
    (rw c.in-Some-2.is at c.in_ok-levels.ensures) in
    malformed k n c.in-Some.mode tree named
    (λ h. c.in-Err.ensures (subst (HasForm c.in-Some.mode n) (sym levels.1) h))
