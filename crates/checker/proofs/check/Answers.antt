use Rattle.checker.proofs.Upshot.{sound, refuted}
use Rattle.checker.proofs.check.Goals as goal

pub returns-in-None-clause-nucleolus : goal.returns-in-None-clause-nucleolus
returns-in-None-clause-nucleolus g c =
    λ e. sound c.args.certificate.now.mode c.mode.result c.args.family c.args.measure
    (g.W.Worth.game c.args.game.now) c.args.shares.now c.levels.result.now c.args.certificate.now.players
    c.requires.measurable c.levels.ensures.form c.requires.certificate c.mode.ensures c.in-None.ensures

pub returns-in-Some-clause-exact : goal.returns-in-Some-clause-exact
returns-in-Some-clause-exact g c = (
  λ e. cc,
  λ e. absurd
      (refuted c.args.certificate.now.mode c.mode.result c.args.family c.args.measure
      (g.W.Worth.game c.args.game.now) c.args.shares.now c.args.certificate.now.levels c.levels.result.now
      c.in-Some.reason c.mode.ensures c.levels.ensures.value c.in-Some.ensures e),
)
