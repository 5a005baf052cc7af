use Rattle.std.proofs.Common.{◌∙◌}
use Rattle.kohlberg.proofs.SpanScan.{pairs_step}
use Rattle.kohlberg.proofs.spanned.add_coalitions.Goals as goal

pub loop-s-preserved : goal.loop-s-preserved
loop-s-preserved c = (
  c.add.ensures.players ∙ c.loop-s.invariant.0,
  pairs_step c.args.span.now.players c.loop-s.span.players c.args.span.now.kept c.loop-s.span.kept
      c.add.new.self.kept c.args.pairs.now c.loop-s.s-index c.loop-s-item.result c.loop-s.invariant.0
      c.loop-s-test.true c.loop-s-item.is c.loop-s.invariant.1 c.add.ensures.grows,
)
