use Rattle.std.proofs.Common.{[], sym, subst}
use Rattle.std.specs.List.{AllByRecursion}
use Rattle.spans.specs.Span.{SpanData}
use Rattle.kohlberg.specs.Extends.{IsOf}
use Rattle.checker.proofs.Chain.{levels_of}
use Rattle.test_solvers.proofs.LevelSpans.{spans_levels}
use Rattle.test_solvers.proofs.fronts.span_of.Goals as goal

pub add_levels-requires-clause-within : goal.add_levels-requires-clause-within
add_levels-requires-clause-within c =
    subst (λ (v : SpanData). AllByRecursion (IsOf v.players) c.args.levels.now) (sym c.new-span.ensures)
    (levels_of c.args.players [] c.args.levels.now c.requires.each)

pub returns-clause-spans : goal.returns-clause-spans
returns-clause-spans c =
    spans_levels c.args.players c.new-span.result c.add_levels.new.span.kept c.args.levels.now c.new-span.ensures
    c.add_levels.ensures.extends
