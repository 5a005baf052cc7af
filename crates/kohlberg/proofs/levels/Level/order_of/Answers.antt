use Rattle.std.proofs.Common.{◌∙◌, ◌*ℤ◌, ap}
use Rattle.std.specs.Ordering.{int_cmp}
use Rattle.definitions.specs.Certificates.{Level}
use Rattle.kohlberg.proofs.levels.Level.order_of.Goals as goal

pub returns : goal.returns
returns c =
    let order =
    λ (v : Level). int_cmp (c.args.excess.now.num *ℤ v.excess_den) (v.excess_num *ℤ c.args.excess.now.den) in
    c.compare.ensures ∙ ap order c.self.view_is
