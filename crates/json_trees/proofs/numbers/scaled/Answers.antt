use Rattle.std.proofs.Common.{◌*ℤ◌, ◌≤ℤ◌, ◌<◌, ◌^◌, ℤ, pos, unsigned_abs, FitsSigned, subst, arith}
use Rattle.std.proofs.Common.{rules}
use Rattle.std.proofs.lemmas.Int.{ints}
use mir.Syntax.{w128}
use Rattle.fractions.specs.Fraction.{IsRatio, HasNoForm}
use Rattle.json_trees.proofs.LowestTerms.{times_made, times_unmade, chosen_some, chosen_none}
use Rattle.json_trees.proofs.numbers.scaled.Goals as goal

pub returns-in-Ok-clause-value : goal.returns-in-Ok-clause-value
returns-in-Ok-clause-value c =
    let fd : FitsSigned w128 c.den.result = search rules in
    let same = c.den.ensures.value in
    let p = c.den.ensures.positive in
    let positive : pos 1 ≤ℤ c.args.number.now.den = subst (λ (z : ℤ). pos 1 ≤ℤ z) same p in
    let made : IsRatio c.in-Ok.product (c.args.number.now.num *ℤ pos c.args.scale)
    (c.args.number.now.den *ℤ pos 1) = search rules in
    times_made c.args.scale c.args.number.now c.in-Ok.product positive made

pub returns-in-Err-clause-value : goal.returns-in-Err-clause-value
returns-in-Err-clause-value c =
    let fd : FitsSigned w128 c.den.result = search rules in
    let same = c.den.ensures.value in
    let p = c.den.ensures.positive in
    let positive : pos 1 ≤ℤ c.args.number.now.den = subst (λ (z : ℤ). pos 1 ≤ℤ z) same p in
    let small : unsigned_abs c.args.number.now.den < 2 ^ 127 =
    subst (λ (z : ℤ). unsigned_abs z < 2 ^ 127) same (omega (arith, ints, fd, p)) in
    let none : HasNoForm (c.args.number.now.num *ℤ pos c.args.scale) (c.args.number.now.den *ℤ pos 1) =
    search rules in
    times_unmade c.args.scale c.args.number.now positive small none

pub returns-in-Ok-clause-chosen : goal.returns-in-Ok-clause-chosen
returns-in-Ok-clause-chosen c =
    let fd : FitsSigned w128 c.den.result = search rules in
    let same = c.den.ensures.value in
    let p = c.den.ensures.positive in
    let positive : pos 1 ≤ℤ c.args.number.now.den = subst (λ (z : ℤ). pos 1 ≤ℤ z) same p in
    let made : IsRatio c.in-Ok.product (c.args.number.now.num *ℤ pos c.args.scale)
    (c.args.number.now.den *ℤ pos 1) = search rules in
    let fits : FitsSigned w128 c.in-Ok.product.num = search rules in
    chosen_some c.args.scale c.args.number.now c.in-Ok.product
    (times_made c.args.scale c.args.number.now c.in-Ok.product positive made) fits

pub returns-in-Err-clause-chosen : goal.returns-in-Err-clause-chosen
returns-in-Err-clause-chosen c =
    let fd : FitsSigned w128 c.den.result = search rules in
    let same = c.den.ensures.value in
    let p = c.den.ensures.positive in
    let positive : pos 1 ≤ℤ c.args.number.now.den = subst (λ (z : ℤ). pos 1 ≤ℤ z) same p in
    let small : unsigned_abs c.args.number.now.den < 2 ^ 127 =
    subst (λ (z : ℤ). unsigned_abs z < 2 ^ 127) same (omega (arith, ints, fd, p)) in
    let none : HasNoForm (c.args.number.now.num *ℤ pos c.args.scale) (c.args.number.now.den *ℤ pos 1) =
    search rules in
    chosen_none c.args.scale c.args.number.now (times_unmade c.args.scale c.args.number.now positive small none)
