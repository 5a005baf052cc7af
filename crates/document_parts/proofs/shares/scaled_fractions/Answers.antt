use Rattle.std.proofs.Common.{◌≡◌, get_or, sym, ap, ◌∙◌, arith}
use Rattle.std.proofs.lemmas.List.{length-map, get_or-map}
use Rattle.std.proofs.lemmas.Result.{IfOk-from_err}
use Rattle.json_trees.specs.LowestTerms.{times_scale}
use Rattle.document_parts.specs.Shares.{scaled_fractions}
use Rattle.document_parts.proofs.LeastDenominators.{scaled_reduced, not_kept}
use Rattle.json_trees.proofs.Pushed.{map_all}
use Rattle.document_parts.proofs.shares.scaled_fractions.Goals as goal

pub returns-in_default : goal.returns-in_default
returns-in_default c =
    let k = c.args.scale in
    let fs = c.args.written.now in
    let i = c.loop-number.number-index in
    let long = length-map fs (times_scale k) in
    let lt = c.loop-number-test.true in
    let x = times_scale k c.number-item.result in
    let at : x ≡ get_or (scaled_fractions k fs) i x =
    ap (times_scale k) c.number-item.is ∙ sym (get_or-map (times_scale k) fs i c.number-item.result _ lt) in
    not_kept (scaled_fractions k fs) i _ (scaled_reduced k fs c.requires.reduced) (omega (arith, long, lt)) at
    c.in_default.ensures.value

pub returns-in_err-push : goal.returns-in_err-push
returns-in_err-push c = IfOk-from_err c.from_residual.result _ c.from_residual.ensures.0

pub returns : goal.returns
returns c =
    map_all (times_scale c.args.scale) c.args.written.now c.loop-number.number-index
    c.loop-number.found.items c.loop-number-test.false c.loop-number.invariant
