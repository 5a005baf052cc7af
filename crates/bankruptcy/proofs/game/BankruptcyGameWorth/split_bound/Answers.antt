use Rattle.std.proofs.Common.{◌∙◌}
use Rattle.std.proofs.lemmas.Int.{to_z-of_z}
use Rattle.bankruptcy.specs.Bankruptcy.{bankruptcy_game}
use Rattle.bankruptcy.specs.Arms.{arm_at}
use Rattle.bankruptcy.proofs.Excesses.{excess-arms}
use Rattle.bankruptcy.proofs.Splits.{IsSplitMaximum-greater}
use mir.Syntax.{w128}
use Rattle.bankruptcy.proofs.game.BankruptcyGameWorth.split_bound.Goals as goal

pub returns : goal.returns
returns c =
    let b = c.args.self.now in
    let x = c.args.x.now in
    let f = c.nothing.result.factor in
    let g = c.rest.result.factor in
    let nothing = to_z-of_z w128 c.split_bound-nothing.result (record { sfits = c.split_bound-nothing.type_inv }) in
    let rest = to_z-of_z w128 c.split_bound-rest.result (record { sfits = c.split_bound-rest.type_inv }) in
    let kept = to_z-of_z w128 c.max.result (record { sfits = c.max.type_inv }) in
    IsSplitMaximum-greater (bankruptcy_game b) x c.args.free (arm_at f b x) (arm_at g b x)
    c.split_bound-nothing.result c.split_bound-rest.result _
    (λ s lt. excess-arms b x f g s c.requires.shares c.rest.ensures.positive c.nothing.ensures c.rest.ensures.factor
    lt) c.split_bound-nothing.ensures c.split_bound-rest.ensures
    (kept ∙ rw (nothing, rest) at c.max.ensures.value)
