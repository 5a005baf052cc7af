use Rattle.std.proofs.Common.{◌∙◌, sym, arith}
use Rattle.worth_core.proofs.SplitSteps.{AreSplitSums-free, AreSplitSums-other}
use mir.Syntax.{w128}
use Rattle.worth_core.proofs.split_sums.SplitSums.add.Goals as goal
use Rattle.definitions.proofs.Casts.{cast_kept}

pub returns-then-is_free-clause-sums : goal.returns-then-is_free-clause-sums
returns-then-is_free-clause-sums c = λ n a f seen i lt new is number h.
    let kept = cast_kept w128 c.args.weight (omega (arith, c.requires.small)) in
    let e = c.with_free.ensures in
    AreSplitSums-free n i a f seen _ c.args.self.now c.with_free.result lt new (is ∙ c.if-is_free.true)
    (number ∙ sym kept) h e.neither e.holding e.lacking e.both

pub returns-else-is_free-clause-sums : goal.returns-else-is_free-clause-sums
returns-else-is_free-clause-sums c = λ n a f seen i lt new is number h.
    let kept = cast_kept w128 c.args.weight (omega (arith, c.requires.small)) in
    let e = c.with_other.ensures in
    AreSplitSums-other n i a f seen _ c.args.self.now c.with_other.result lt new (is ∙ c.if-is_free.false)
    (number ∙ sym kept) h e.neither e.holding e.lacking e.both
