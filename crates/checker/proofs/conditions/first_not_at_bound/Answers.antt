use Rattle.std.proofs.Common.{pos, sym, ◌∙◌}
use Rattle.std.proofs.lemmas.Bool.{false≢true}
use Rattle.definitions.specs.Failures.{IsTight}
use Rattle.checker.proofs.Firsts.{leads_start, leads_more_at, leads_failing_at, leads_end}
use Rattle.checker.proofs.conditions.first_not_at_bound.Goals as goal

pub loop-i-init : goal.loop-i-init
loop-i-init g c =
    leads_start (IsTight c.args.family (g.W.Worth.game c.args.game.now) c.args.shares.now) c.args.bounds.now

pub returns-then-not-is_tight : goal.returns-then-not-is_tight
returns-then-not-is_tight g c =
    leads_failing_at (IsTight c.args.family (g.W.Worth.game c.args.game.now) c.args.shares.now) c.args.bounds.now
    c.loop-i.i-index (0, pos 0) c.loop-i-test.true c.loop-i.invariant
    (λ p. absurd (false≢true (sym c.if-not-is_tight.true ∙ c.is_tight.ensures.1 p)))

pub loop-i-preserved : goal.loop-i-preserved
loop-i-preserved g c =
    leads_more_at (IsTight c.args.family (g.W.Worth.game c.args.game.now) c.args.shares.now) c.args.bounds.now
    c.loop-i.i-index (0, pos 0) c.loop-i-test.true c.loop-i.invariant
    (c.is_tight.ensures.0 c.if-not-is_tight.false)

pub returns : goal.returns
returns g c =
    leads_end (IsTight c.args.family (g.W.Worth.game c.args.game.now) c.args.shares.now) c.args.bounds.now
    c.loop-i.i-index c.loop-i.invariant c.loop-i-test.false
