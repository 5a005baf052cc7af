use Rattle.std.proofs.Common.{ℕ, ℤ, ◌^◌, ◌<◌, length, to_z, unsigned_abs, sym, subst, arith}
use mir.Syntax.{w128}
use Rattle.definitions.proofs.Alls.{all_at}
use Rattle.balanced_collections.proofs.Totals.{weighted_more, added, term}
use Rattle.balanced_collections.proofs.weighted_worth.Goals as goal

pub loop-coalition-preserved : goal.loop-coalition-preserved
loop-coalition-preserved g c =
    let game = g.W.Worth.game c.args.game.now in
    let ps = c.args.weights.now in
    let j = c.loop-coalition.coalition-index in
    let p = c.loop-coalition-item.result in
    let e = c.loop-coalition-item.is in
    let lt : j < length ps = omega (arith, c.loop-coalition-test.true) in
    let within : p.0 < 2 ^ game.players =
    subst (λ (q : ℕ × ℤ). q.0 < 2 ^ game.players) (sym e)
    (all_at (λ (q : ℕ × ℤ). q.0 < 2 ^ game.players) ps j p lt c.requires.within) in
    let weight : unsigned_abs p.1 < 2 ^ 62 =
    subst (λ (q : ℕ × ℤ). unsigned_abs q.1 < 2 ^ 62) (sym e)
    (all_at (λ (q : ℕ × ℤ). unsigned_abs q.1 < 2 ^ 62) ps j p lt c.requires.small) in
    let small : unsigned_abs c.worth.result < 2 ^ 46 =
    subst (λ (z : ℤ). unsigned_abs z < 2 ^ 46) (sym c.worth.ensures)
    (c.players.ensures.laws.small p.0 within) in
    let here =
    term game.worth ps j p c.scaled-sum.result c.worth.result e weight c.worth.ensures small
    c.scaled-sum.ensures.value in
    added (to_z w128 c.loop-coalition.sum-bits) c.scaled-sum.result _ _ _ _ j c.loop-coalition.invariant.1
    (omega (arith, c.requires.few, lt)) c.scaled-sum.ensures.small c.loop-coalition.invariant.0
    (weighted_more game.worth ps j p lt) here
