use Rattle.std.proofs.Common.{length, ◌^◌}
use Rattle.bankruptcy.specs.Bankruptcy.{bankruptcy_game}
use Rattle.bankruptcy.specs.Arms.{arm_at}
use Rattle.bankruptcy.proofs.Excesses.{excess-arms}
use Rattle.bankruptcy.proofs.LeastGreatest.{blocker-least}
use Rattle.bankruptcy.proofs.game.BankruptcyGameWorth.blocker.Goals as goal

pub returns : goal.returns
returns c =
    let b = c.args.self.now in
    let x = c.args.x.now in
    let f = c.nothing.result.factor in
    let g = c.rest.result.factor in
    let best =
    c.or.ensures (arm_at f b x) (arm_at g b x) (2 ^ length b.claims) c.greatest-nothing.ensures
    c.greatest-rest.ensures in
    blocker-least (bankruptcy_game b) x _ c.or.result.coalition c.or.result.excess c.blocking.result
    (λ s lt. excess-arms b x f g s c.requires c.rest.ensures.positive c.nothing.ensures c.rest.ensures.factor lt)
    best c.blocking.ensures.blocks c.blocking.ensures.none
