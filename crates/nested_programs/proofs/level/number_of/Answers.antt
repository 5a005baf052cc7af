use Rattle.std.proofs.Common.{◌≢◌, ◌^◌, ◌<◌, length, get_or, pos, sym, ◌∙◌, arith, unsigned_abs}
use borrow.Author.Count.{below_more}
use mir.Syntax.{w128}
use Rattle.nested_programs.proofs.NumberedColumns.{number_none, number_found}
use Rattle.nested_programs.proofs.level.number_of.Goals as goal
use Rattle.definitions.proofs.Alls.{all_at}
use Rattle.definitions.proofs.Casts.{cast_kept}

pub returns-then-other-id-clause-value : goal.returns-then-other-id-clause-value
returns-then-other-id-clause-value c =
    let ws = c.args.weights.now in
    let k = c.loop-other.other-index in
    let lt : k < length ws = omega (arith, c.loop-other-test.true) in
    let small = all_at (λ w. unsigned_abs w.1 < 2 ^ 62) ws k (0, pos 0) lt c.requires.small in
    cast_kept w128 (get_or ws k (0, pos 0)).1 (omega (arith, small))
    ∙ sym (number_found ws (0, pos 0) k c.args.id c.requires.distinct lt c.if-other-id.true)

pub loop-other-preserved : goal.loop-other-preserved
loop-other-preserved c =
    below_more (λ j. (get_or c.args.weights.now j (0, pos 0)).0 ≢ c.args.id) c.loop-other.other-index
    c.loop-other.invariant c.if-other-id.false

pub returns-clause-value : goal.returns-clause-value
returns-clause-value c =
    sym (number_none c.args.weights.now (0, pos 0) c.args.id (λ j lt. c.loop-other.invariant j (omega arith)))
