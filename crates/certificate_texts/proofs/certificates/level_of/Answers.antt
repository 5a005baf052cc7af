use Rattle.std.proofs.Common.{◌≡◌, sym, ◌∙◌, to_z, of_z, rules}
use mir.Syntax.{w128}
use Rattle.serde_json.specs.View.{view}
use Rattle.certificate_texts.proofs.WrittenLevels.{level_read}
use Rattle.certificate_texts.proofs.certificates.level_of.Goals as goal

pub returns : goal.returns
returns c =
    let kept : to_z w128 (of_z w128 c.from.result) ≡ c.in-Some-total_of.total = search rules in
    rw kept
    (level_read c.args.scale c.args.n (view c.args.level.now) c.in-Some.excess c.in-Some-total_of.total
    c.in-Some-2.coalitions.items c.in-Some-3.earlier.items c.in-Some-4.bounds.items
    (sym c.in-Some.is ∙ c.excess_of.ensures) (sym c.in-Some-total_of.is ∙ c.total_of.ensures)
    (rw c.in-Some-2.is at c.in_ok-coalitions.ensures) (rw c.in-Some-3.is at c.in_ok-earlier.ensures)
    (rw c.in-Some-4.is at c.in_ok-bounds.ensures))
