use Rattle.std.proofs.Common.{◌≡◌, ◌++◌, ◌<◌, map, length}
use Rattle.separation.specs.Making.{earlier_columns}
use Rattle.separation.proofs.Pushed.{levels-push, on_err, levels_part}
use Rattle.separation.proofs.stage.push_earlier.Goals as goal

pub loop-k-preserved : goal.loop-k-preserved
loop-k-preserved g c =
    let game = g.W.Worth.game c.args.game.now in
    let lt : c.loop-k.k < length c.args.levels.now = c.loop-k-test.true in
    let pushed : c.push_level.new.columns.items
    ≡ c.loop-k.columns.items ++ earlier_columns game (map (λ p. (p.0, c.loop-k.k)) c.deref.result.now) =
    c.in_ok-push_level.ensures.ok in
    let same : c.deref.result.now ≡ c.index-levels-k.result.coalitions =
    cc (c.deref.ensures.value, c.level.view_is) in
    levels-push game c.loop-k.k c.args.levels.now c.index-levels-k.result c.args.columns.now.items
    c.loop-k.columns.items _ lt c.index-levels-k.is c.loop-k.invariant (cc)

pub returns-in_err-push_level-clause-err : goal.returns-in_err-push_level-clause-err
returns-in_err-push_level-clause-err g c =
    let game = g.W.Worth.game c.args.game.now in
    let lt : c.loop-k.k < length c.args.levels.now = c.loop-k-test.true in
    let same : c.deref.result.now ≡ c.index-levels-k.result.coalitions =
    cc (c.deref.ensures.value, c.level.view_is) in
    on_err c.from_residual.result
    (levels_part game c.loop-k.k c.args.levels.now c.index-levels-k.result c.args.columns.now.items
    c.loop-k.columns.items _ lt c.index-levels-k.is c.loop-k.invariant (rw same at
    c.in_err-push_level.ensures.err))
