use Rattle.std.proofs.Common.{pos, ◌≤ℤ◌, refl}
use Rattle.std.proofs.lemmas.Bool.{false≢true}
use Rattle.checker.specs.Fixed.{mode_of}
use Rattle.checker.proofs.Judged.{none_above, some_above}
use Rattle.checker.proofs.failures.Claim.outside_above.Goals as goal

pub returns-else-is_above : goal.returns-else-is_above
returns-else-is_above g c =
    let game = g.W.Worth.game c.args.self.now.game.now in
    let x = c.args.self.now.shares.now in
    let den : pos 1 ≤ℤ x.den = rw c.den.ensures.value at c.den.ensures.positive in
    λ front h. none_above (mode_of c.args.fixed.now) c.args.self.now.measure game x front c.args.level.now
    c.in_ok-excess.excess den c.if-is_above.ensures.positive c.requires.fraction
    (c.in_ok-excess.ensures front h) (λ lt. false≢true (c.if-is_above.ensures.above.1 lt))

pub returns-then-is_above : goal.returns-then-is_above
returns-then-is_above g c =
    let game = g.W.Worth.game c.args.self.now.game.now in
    let x = c.args.self.now.shares.now in
    let den : pos 1 ≤ℤ x.den = rw c.den.ensures.value at c.den.ensures.positive in
    λ front h.
    let top = c.in_ok-excess.ensures front h in (
      some_above (mode_of c.args.fixed.now) c.args.self.now.measure game x front c.args.level.now
          c.in_ok-excess.excess den c.if-is_above.ensures.positive top (c.if-is_above.ensures.above.0 refl),
      top,
    )
