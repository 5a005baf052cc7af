use Rattle.std.proofs.Common.{rules, FitsSigned, pos, slice_index_or}
use mir.Syntax.{w128}
use Rattle.std.proofs.lemmas.Int.{to_z-of_z}
use Rattle.determinants.specs.Matrix.{weight_at}
use Rattle.simplex.specs.Ratio.{IsLeast}
use Rattle.simplex.proofs.Sizes.{more_is, at_most_is}
use Rattle.simplex.proofs.Ratios.{least_first, least_next, least_more, choice_more}
use Rattle.simplex.proofs.improve.chosen.Goals as goal

pub returns-then-weights-k-le0 : goal.returns-then-weights-k-le0
returns-then-weights-k-le0 c =
    let f : FitsSigned w128 (slice_index_or c.args.weights.now c.args.k (pos 0)) = search rules in
    choice_more c.args.tracked.now c.args.weights.now c.args.n c.args.k c.args.best
    (at_most_is (weight_at c.args.weights.now c.args.k) (pos 0) (simp to_z-of_z at c.if-weights-k-le0.true))
    c.requires.best

pub returns-in_default : goal.returns-in_default
returns-in_default c =
    let f : FitsSigned w128 (slice_index_or c.args.weights.now c.args.k (pos 0)) = search rules in
    let positive =
    more_is (weight_at c.args.weights.now c.args.k) (pos 0) (simp to_z-of_z at c.if-weights-k-le0.false) in
    least_first c.args.tracked.now c.args.weights.now c.args.n c.args.k c.requires.place positive
    (rw c.in_default.is at c.requires.best)

pub returns-then-goes_before : goal.returns-then-goes_before
returns-then-goes_before c =
    let f : FitsSigned w128 (slice_index_or c.args.weights.now c.args.k (pos 0)) = search rules in
    let positive =
    more_is (weight_at c.args.weights.now c.args.k) (pos 0) (simp to_z-of_z at c.if-weights-k-le0.false) in
    let least : IsLeast c.args.tracked.now c.args.weights.now c.args.n c.args.k c.in-Some.p =
    rw c.in-Some.is at c.requires.best in
    least_next c.args.tracked.now c.args.weights.now c.args.n c.args.k c.in-Some.p c.requires.place positive
    (rw c.if-goes_before.true at c.goes_before.ensures) least

pub returns-else-goes_before : goal.returns-else-goes_before
returns-else-goes_before c =
    let least : IsLeast c.args.tracked.now c.args.weights.now c.args.n c.args.k c.in-Some.p =
    rw c.in-Some.is at c.requires.best in
    least_more c.args.tracked.now c.args.weights.now c.args.n c.args.k c.in-Some.p
    (λ q. rw c.if-goes_before.false at c.goes_before.ensures) least
