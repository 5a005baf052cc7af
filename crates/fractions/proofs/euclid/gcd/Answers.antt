use Rattle.std.proofs.Common.{◌≡◌, ◌∙◌, sym, subst}
use Rattle.std.specs.Int.{IsGcd}
use Rattle.fractions.specs.Divisors.{gcd}
use Rattle.fractions.proofs.Divisors.{gcd-mod, gcd-zero, gcd_is}
use Rattle.fractions.proofs.euclid.gcd.Goals as goal

pub loop-y-preserved : goal.loop-y-preserved
loop-y-preserved c = gcd-mod c.loop-y.x c.loop-y.y ∙ c.loop-y.invariant

pub returns : goal.returns
returns c =
    let value : c.loop-y.x ≡ gcd c.args.a c.args.b =
    sym (gcd-zero c.loop-y.x c.loop-y.y c.loop-y-test.false) ∙ c.loop-y.invariant in
    record { value = value; greatest = subst (IsGcd c.args.a c.args.b) (sym value) (gcd_is c.args.a c.args.b) }
