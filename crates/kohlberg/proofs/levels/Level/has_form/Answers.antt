use Rattle.std.proofs.Common.{◌≤ℤ◌, pos, subst, ℤ}
use Rattle.std.proofs.lemmas.Bool.Decides.{Decides-at}
use Rattle.definitions.specs.Certificates.{Level}
use Rattle.kohlberg.proofs.Forms.{Decides-level_form}
use Rattle.kohlberg.proofs.levels.Level.has_form.Goals as goal

pub returns : goal.returns
returns c =
    let inner : pos 1 ≤ℤ c.self.inside.excess.den =
    subst (λ (z : ℤ). pos 1 ≤ℤ z) c.den.ensures.value c.den.ensures.positive in
    let den : pos 1 ≤ℤ c.args.self.now.excess_den =
    subst (λ (v : Level). pos 1 ≤ℤ v.excess_den) c.self.view_is inner in
    Decides-at _ _ c.passes.ensures (Decides-level_form c.args.n c.args.front.now c.args.self.now den)
