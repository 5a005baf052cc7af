use Rattle.std.proofs.Common.{pos, neg_ℤ, ◌+ℤ◌, get_or, to_z, of_z, arith, ap, ◌∙◌, if◌then◌else◌}
use mir.Syntax.{w64, w128}
use Rattle.definitions.proofs.Casts.{cast_kept}
use Rattle.definitions.specs.Coalitions.{has_player}
use Rattle.definitions.proofs.Sizes.{size-at}
use Rattle.definitions.proofs.Halves.{size_below-most}
use Rattle.shapley.proofs.Sums.{credit-is, set_next}
use Rattle.shapley.proofs.totals.add_worth.Goals as goal

pub gain-gain-requires-clause-members : goal.gain-gain-requires-clause-members
gain-gain-requires-clause-members c =
    let count =
    c.len-members.ensures ∙ size-at c.args.n c.args.s (omega arith) c.requires.within in
    rw count (size_below-most c.args.n c.args.s)

pub loss-loss-requires-clause-members : goal.loss-loss-requires-clause-members
loss-loss-requires-clause-members c =
    let count =
    c.len-members.ensures ∙ size-at c.args.n c.args.s (omega arith) c.requires.within in
    rw count (size_below-most c.args.n c.args.s)

pub loop-i-preserved : goal.loop-i-preserved
loop-i-preserved c =
    let i = c.loop-i.i in
    let same = c.loop-i.invariant.1 i (omega arith) in
    let kept =
    cast_kept w128 (get_or c.loop-i.totals i (pos 0))
    (rw same (omega (arith, c.requires.room i (pos 0) c.loop-i-test.true))) in
    set_next c.loop-i.totals c.args.totals.now i
    (λ k. if has_player c.args.s k then to_z w128 (of_z w128 c.gain-gain.result)
    else neg_ℤ (to_z w128 (of_z w128 c.loss-loss.result))) c.changed.result
    (omega arith) c.changed.ensures.small c.loop-i.invariant
    (rw (kept, c.contains.ensures) at c.changed.ensures.value)

pub returns : goal.returns
returns c = λ k lt.
    let count =
    c.len-members.ensures ∙ size-at c.args.n c.args.s (omega arith) c.requires.within in
    let gain = cast_kept w128 c.gain-gain.result (omega arith) in
    let loss = cast_kept w128 c.loss-loss.result (omega arith) in
    let worth = cast_kept w64 c.args.worth (omega arith) in
    let here = c.loop-i.invariant.0 k (omega arith) in
    (rw (gain, loss) at here)
    ∙ ap (λ z. get_or c.args.totals.now k (pos 0) +ℤ z)
    (credit-is c.args.n c.args.s c.len-members.result k c.args.worth c.gain-gain.result c.loss-loss.result lt
    count (rw worth at c.gain-gain.ensures.value) (rw worth at c.loss-loss.ensures.value))
