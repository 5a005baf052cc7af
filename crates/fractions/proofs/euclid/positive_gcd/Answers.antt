use Rattle.std.proofs.Common.{◌≡◌, ◌<◌, ◌^◌, pos, unsigned_abs, ap, ◌∙◌, subst, sym, arith}
use Rattle.std.proofs.lemmas.Int.{ints, to_z-of_z, to_z_pos}
use mir.Syntax.{w128}
use Rattle.fractions.specs.Divisors.{gcd}
use Rattle.fractions.proofs.Operations.{common_small}
use Rattle.fractions.proofs.euclid.positive_gcd.Goals as goal

value : (c : goal.After-gcd) → c.gcd.result ≡ gcd (unsigned_abs c.args.a) (unsigned_abs c.args.b)
value c =
    let fa = c.ranges.a in
    let fb = c.ranges.b in
    let a = simp to_z-of_z at c.unsigned_abs.ensures.value in
    let b = simp to_z-of_z at c.unsigned_abs-2.ensures.value in
    c.gcd.ensures.value ∙ ap (λ n. gcd n c.unsigned_abs-2.result) a ∙ ap (λ n. gcd (unsigned_abs c.args.a) n) b

result_small : (c : goal.After-gcd) → c.gcd.result < 2 ^ 127
result_small c =
    subst (λ n. n < 2 ^ 127) (sym (value c)) (common_small c.args.a c.args.b c.requires.b_positive c.ranges.b)

pub overflow_cast-result : goal.overflow_cast-result
overflow_cast-result c = let h = result_small c in omega (arith, ints)

pub returns : goal.returns
returns c = to_z_pos w128 c.gcd.result (result_small c) ∙ ap pos (value c)
