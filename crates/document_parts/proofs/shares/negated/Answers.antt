use Rattle.std.proofs.Common.{◌≡◌, ◌<◌, ◌≤◌, List, length, get_or, ℤ, pos, neg_ℤ}
use Rattle.std.proofs.Common.{◌-ℤ◌, to_z, of_z, ap, rules, ◌∙◌, arith}
use Rattle.std.specs.Int.{w128}
use Rattle.std.proofs.lemmas.Result.{IfOk-from_err}
use Rattle.document_parts.proofs.Payments.{turned_made}
use Rattle.json_trees.proofs.Pushed.{map_pushed}
use Rattle.document_parts.proofs.shares.negated.Goals as goal

pub returns : goal.returns
returns c =
    let kept : to_z w128 (of_z w128 c.den.result) ≡ c.den.result = search rules in
    let over : length c.args.shares.now.shares ≤ c.loop-i.i =
    omega (arith, c.players-i-end.ensures.count, c.loop-i-test.false) in
    turned_made c.args.shares.now c.loop-i.num.items _ c.loop-i.i c.new.result c.players-i-end.ensures.shares
    c.loop-i.invariant over (kept ∙ c.den.ensures.value) c.new.ensures

pub returns-in_err-push : goal.returns-in_err-push
returns-in_err-push c = IfOk-from_err c.from_residual.result _ c.from_residual.ensures.0

pub loop-i-preserved : goal.loop-i-preserved
loop-i-preserved c =
    let shares = c.args.shares.now.shares in
    let read : to_z w128 (of_z w128 c.num.result) ≡ get_or shares c.loop-i.i (pos 0) = search rules in
    let kept : to_z w128 (of_z w128 (pos 0 -ℤ to_z w128 (of_z w128 c.num.result)))
    ≡ pos 0 -ℤ to_z w128 (of_z w128 c.num.result) = search rules in
    let turned : pos 0 -ℤ get_or shares c.loop-i.i (pos 0) ≡ neg_ℤ (get_or shares c.loop-i.i (pos 0)) =
    search rules in
    let below : c.loop-i.i < length shares = omega (arith, c.players-i-end.ensures.count, c.loop-i-test.true) in
    ◌∙◌ {A = List ℤ} c.in_ok-push.ensures.items
    (map_pushed neg_ℤ shares c.loop-i.i (pos 0) c.loop-i.num.items _ below c.loop-i.invariant
    (kept ∙ ap (λ (z : ℤ). pos 0 -ℤ z) read ∙ turned))
