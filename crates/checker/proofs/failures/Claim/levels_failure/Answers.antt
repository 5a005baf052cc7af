use Rattle.std.proofs.Common.{◌∙◌, ◌+◌, MatchOption, sym, subst, take}
use Rattle.definitions.specs.declared.Mode.{Mode}
use Rattle.definitions.specs.Certificates.{Level, LevelHolds, IsAllFixed}
use Rattle.definitions.specs.Failures.{not_all, LevelFails, NotAllFixed}
use Rattle.checker.specs.Meaning.{Means}
use Rattle.checker.proofs.Chain.{SameLevels-start, SameLevels-more, Fixes-next, fails_here}
use Rattle.checker.proofs.Chain.{within_one, form_here, last_holds, last_fails}
use Rattle.checker.proofs.Judged.{level_failed, no_failure}
use Rattle.checker.proofs.failures.Claim.levels_failure.Goals as goal

pub returns-then-is_some : goal.returns-then-is_some
returns-then-is_some g c =
    let mode = c.args.mode in
    let family = c.args.self.now.family in
    let measure = c.args.self.now.measure in
    let game = g.W.Worth.game c.args.self.now.game.now in
    let x = c.args.self.now.shares.now in
    let levels = c.args.levels.now in
    let i = c.loop-i.i in
    let here = c.index-levels-i in
    let failed =
    subst
    (λ (m : Mode). MatchOption c.level_failure-failure.result
    (LevelHolds m family measure game x (take i levels) here.result)
    (Means measure x (LevelFails m family measure game x (i + 1) (take i levels) here.result)))
    c.loop-i.invariant.1 c.level_failure-failure.ensures in
    level_failed mode family measure game x levels i (take i levels) here.result c.level_failure-failure.result
    (λ r k. fails_here mode family measure game x levels i here.result c.loop-i-test.true c.loop-i.invariant.0 r
    (subst (λ (l : Level). LevelFails mode family measure game x (i + 1) (take i levels) l r) here.is k))
    (sym c.if-is_some.ensures) failed

pub loop-i-init : goal.loop-i-init
loop-i-init g c =
    let game = g.W.Worth.game c.args.self.now.game.now in (
      SameLevels-start c.args.mode c.args.self.now.family c.args.self.now.measure game c.args.self.now.shares.now
          c.args.levels.now c.requires.form,
      c.nothing_fixed-fixed.ensures.mode,
      rw c.players-players.ensures.count at c.nothing_fixed-fixed.ensures.fixes,
    )

pub loop-i-preserved : goal.loop-i-preserved
loop-i-preserved g c =
    let mode = c.args.mode in
    let family = c.args.self.now.family in
    let measure = c.args.self.now.measure in
    let game = g.W.Worth.game c.args.self.now.game.now in
    let x = c.args.self.now.shares.now in
    let levels = c.args.levels.now in
    let i = c.loop-i.i in
    let here = c.index-levels-i in
    let lt = c.loop-i-test.true in
    let inv = c.loop-i.invariant in
    let holds =
    no_failure _ _ c.level_failure-failure.result (sym c.if-is_some.ensures) c.level_failure-failure.ensures in
    let held =
    subst (λ (l : Level). LevelHolds mode family measure game x (take i levels) l) here.is
    (subst (λ (m : Mode). LevelHolds m family measure game x (take i levels) here.result) inv.1 holds) in
    let fixes = rw c.players-players.ensures.count at (c.fix.ensures.fixes (take i levels)) in (
      SameLevels-more mode family measure game x levels i here.result lt held inv.0,
      c.fix.ensures.mode ∙ inv.1,
      Fixes-next game.players levels i here.result c.fix.new.self lt (fixes inv.2),
    )

pub level_failure-failure-requires-clause-form : goal.level_failure-failure-requires-clause-form
level_failure-failure-requires-clause-form g c =
    form_here (g.W.Worth.game c.args.self.now.game.now).players c.args.levels.now c.loop-i.i
    c.index-levels-i.result c.loop-i-test.true c.index-levels-i.is c.loop-i.invariant.0.form

pub level_failure-failure-requires-clause-fixes : goal.level_failure-failure-requires-clause-fixes
level_failure-failure-requires-clause-fixes g c = c.loop-i.invariant.2

pub fix-requires-clause-within : goal.fix-requires-clause-within
fix-requires-clause-within g c =
    rw c.players-players.ensures.count
    (within_one (g.W.Worth.game c.args.self.now.game.now).players c.args.levels.now c.loop-i.i
    c.index-levels-i.result c.loop-i-test.true c.loop-i.invariant.0.within)

pub returns-in_err-player : goal.returns-in_err-player
returns-in_err-player g c =
    let game = g.W.Worth.game c.args.self.now.game.now in
    let front = take c.loop-i.i c.args.levels.now in
    let ask = rw c.players-players.ensures.count at (c.in_err-player.ensures front) in
    let all =
    subst (λ (m : Mode). IsAllFixed m game.players front) c.loop-i.invariant.1 (ask c.loop-i.invariant.2) in
    rw c.from_residual.ensures
    (last_holds c.args.mode c.args.self.now.family c.args.self.now.measure game c.args.self.now.shares.now
    c.args.levels.now c.loop-i.i c.loop-i-test.false c.loop-i.invariant.0 all)

pub returns : goal.returns
returns g c =
    let game = g.W.Worth.game c.args.self.now.game.now in
    let front = take c.loop-i.i c.args.levels.now in
    let r = not_all c.in_ok-player.player in
    let ask = rw c.players-players.ensures.count at (c.in_ok-player.ensures front) in
    let left = subst (λ (m : Mode). NotAllFixed m game front r) c.loop-i.invariant.1 (ask c.loop-i.invariant.2) in
    last_fails c.args.mode c.args.self.now.family c.args.self.now.measure game c.args.self.now.shares.now
    c.args.levels.now c.loop-i.i c.loop-i-test.false c.loop-i.invariant.0 r left
