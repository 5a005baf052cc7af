use Rattle.std.proofs.Common.{◌≡◌, ◌*ℤ◌, rules, arith, ◌+◌, suc, FitsSigned, pos}
use Rattle.std.proofs.Common.{slice_index_or, ◌*◌, ℤ, ◌<ℤ◌, ◌≤ℤ◌, subst₂}
use mir.Syntax.{w128}
use Rattle.std.proofs.lemmas.Int.{to_z-of_z}
use Rattle.determinants.specs.Matrix.{weight_at, entry_at}
use Rattle.simplex.specs.Ratio.{ratio_gap}
use Rattle.simplex.proofs.Ratios.{ratio_before, ratio_not_before, same_so_far, nonneg_zero}
use Rattle.simplex.proofs.Sizes.{less_is, not_less}
use Rattle.simplex.proofs.improve.goes_before.Goals.{After-product-there}
use Rattle.simplex.proofs.improve.goes_before.Goals as goal

pub product-here-requires-clause-a_small : goal.product-here-requires-clause-a_small
product-here-requires-clause-a_small c =
    let f : FitsSigned w128 (slice_index_or c.args.weights.now c.args.p (pos 0)) = search rules in
    simp to_z-of_z (c.requires.weights_small.entries c.args.p c.requires.other)

pub product-here-requires-clause-b_small : goal.product-here-requires-clause-b_small
product-here-requires-clause-b_small c =
    let f : FitsSigned w128 (slice_index_or c.args.tracked.now (32 * c.args.k + c.loop-j.j) (pos 0)) =
    search rules in
    simp to_z-of_z (c.requires.small.entries c.args.k c.loop-j.j c.requires.place (omega arith))

pub product-there-requires-clause-a_small : goal.product-there-requires-clause-a_small
product-there-requires-clause-a_small c =
    let f : FitsSigned w128 (slice_index_or c.args.weights.now c.args.k (pos 0)) = search rules in
    simp to_z-of_z (c.requires.weights_small.entries c.args.k c.requires.place)

pub product-there-requires-clause-b_small : goal.product-there-requires-clause-b_small
product-there-requires-clause-b_small c =
    let f : FitsSigned w128 (slice_index_or c.args.tracked.now (32 * c.args.p + c.loop-j.j) (pos 0)) =
    search rules in
    simp to_z-of_z (c.requires.small.entries c.args.p c.loop-j.j c.requires.other (omega arith))

pub returns : goal.returns
returns c =
    nonneg_zero (suc c.args.n) (ratio_gap c.args.tracked.now c.args.weights.now c.args.k c.args.p)
    (λ i lt. c.loop-j.invariant i (omega arith))

products : (c : After-product-there)
    → (c.product-here.result
    ≡ weight_at c.args.weights.now c.args.p *ℤ entry_at 32 c.args.tracked.now c.args.k c.loop-j.j)
    × (c.product-there.result
    ≡ weight_at c.args.weights.now c.args.k *ℤ entry_at 32 c.args.tracked.now c.args.p c.loop-j.j)
products c =
    let f1 : FitsSigned w128 (slice_index_or c.args.weights.now c.args.p (pos 0)) = search rules in
    let f2 : FitsSigned w128 (slice_index_or c.args.tracked.now (32 * c.args.k + c.loop-j.j) (pos 0)) =
    search rules in
    let f3 : FitsSigned w128 (slice_index_or c.args.weights.now c.args.k (pos 0)) = search rules in
    let f4 : FitsSigned w128 (slice_index_or c.args.tracked.now (32 * c.args.p + c.loop-j.j) (pos 0)) =
    search rules in
    (simp to_z-of_z at c.product-here.ensures, simp to_z-of_z at c.product-there.ensures)

pub returns-then-here-there : goal.returns-then-here-there
returns-then-here-there c =
    let e = products (goal.at.returns-then-here-there c).After-product-there in
    let g1 : FitsSigned w128 c.product-here.result = search rules in
    let g2 : FitsSigned w128 c.product-there.result = search rules in
    let less = less_is c.product-here.result c.product-there.result (simp to_z-of_z at c.if-here-there.true) in
    ratio_before c.args.tracked.now c.args.weights.now c.args.n c.args.k c.args.p c.loop-j.j (omega arith)
    c.loop-j.invariant (subst₂ (λ (a b : ℤ). a <ℤ b) e.0 e.1 less)

pub returns-then-there-here : goal.returns-then-there-here
returns-then-there-here c =
    let e = products (goal.at.returns-then-there-here c).After-product-there in
    let g1 : FitsSigned w128 c.product-here.result = search rules in
    let g2 : FitsSigned w128 c.product-there.result = search rules in
    let less = less_is c.product-there.result c.product-here.result (simp to_z-of_z at c.if-there-here.true) in
    ratio_not_before c.args.tracked.now c.args.weights.now c.args.n c.args.k c.args.p c.loop-j.j (omega arith)
    c.loop-j.invariant (subst₂ (λ (a b : ℤ). a <ℤ b) e.1 e.0 less)

pub loop-j-preserved : goal.loop-j-preserved
loop-j-preserved c =
    let e = products (goal.at.loop-j-preserved c).After-product-there in
    let g1 : FitsSigned w128 c.product-here.result = search rules in
    let g2 : FitsSigned w128 c.product-there.result = search rules in
    let le = not_less c.product-here.result c.product-there.result (simp to_z-of_z at c.if-here-there.false) in
    let ge = not_less c.product-there.result c.product-here.result (simp to_z-of_z at c.if-there-here.false) in
    same_so_far c.args.tracked.now c.args.weights.now c.args.k c.args.p c.loop-j.j c.loop-j.invariant
    (subst₂ (λ (a b : ℤ). a ≤ℤ b) e.1 e.0 le) (subst₂ (λ (a b : ℤ). a ≤ℤ b) e.0 e.1 ge)
