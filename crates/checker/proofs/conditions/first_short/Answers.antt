use Rattle.std.proofs.Common.{◌≤ℤ◌, ◌*ℤ◌, arith}
use borrow.Author.Count.{below_more}
use Rattle.definitions.specs.Coalitions.{singleton}
use Rattle.definitions.specs.Games.{share}
use Rattle.checker.proofs.Values.{not_above, above}
use Rattle.kohlberg.proofs.Kept.{kept}
use Rattle.checker.proofs.conditions.first_short.Goals as goal

pub loop-i-preserved : goal.loop-i-preserved
loop-i-preserved g c =
    let game = g.W.Worth.game c.args.game.now in
    let x = c.args.shares.now in
    let here =
    not_above _ c.excess_alone.result (x.den *ℤ game.worth (singleton c.loop-i.i)) (share x c.loop-i.i)
    (kept c.excess_alone.result c.excess_alone.type_inv) c.excess_alone.ensures c.if-excess_alone-gt0.false in
    below_more (λ j. (x.den *ℤ game.worth (singleton j)) ≤ℤ share x j) c.loop-i.i c.loop-i.invariant here

pub returns-then-excess_alone-gt0 : goal.returns-then-excess_alone-gt0
returns-then-excess_alone-gt0 g c =
    let game = g.W.Worth.game c.args.game.now in
    let x = c.args.shares.now in
    let s = c.excess_alone.result in
    let above_alone =
    above _ s (x.den *ℤ game.worth (singleton c.loop-i.i)) (share x c.loop-i.i) (kept s c.excess_alone.type_inv)
    c.excess_alone.ensures c.if-excess_alone-gt0.true in
    (omega (arith, c.loop-i-test.true, c.players-i-end.ensures.count), above_alone, c.loop-i.invariant)

pub returns : goal.returns
returns g c = λ j h. c.loop-i.invariant j (omega (arith, h, c.loop-i-test.false, c.players-i-end.ensures.count))
