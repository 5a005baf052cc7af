use Rattle.std.proofs.Common.{◌≡◌, pos, FitsSigned, get_or, map, ap, ap₂, ◌∙◌, arith, rules}
use Rattle.std.proofs.lemmas.Int.{to_z-of_z}
use mir.Syntax.{w128}
use Rattle.serde_json.specs.View.{view}
use Rattle.report.specs.ShareLists.{share_data}
use Rattle.report.proofs.Lists.{mapped_more}
use Rattle.report.proofs.values.share_texts.Goals as goal

pub loop-i-preserved : goal.loop-i-preserved
loop-i-preserved c =
    let x = c.args.shares.now in
    let num : FitsSigned w128 c.num.result = search rules in
    let den : FitsSigned w128 c.den.result = search rules in
    let printed = share_data c.args.scale c.args.is_cost in
    let kept = rw (to_z-of_z w128 c.num.result num, to_z-of_z w128 c.den.result den) at c.in_ok-text.ensures in
    let text : view c.in_ok-text.text ≡ printed x.den (get_or x.shares c.loop-i.i (pos 0)) =
    kept ∙ ap₂ printed c.den.ensures.value c.num.ensures.value in
    ap (map view) c.in_ok-push.ensures.items
    ∙ mapped_more view (printed x.den) x.shares c.loop-i.texts.items c.loop-i.i (pos 0) c.in_ok-text.text
    (omega arith) c.loop-i.invariant text
