use Rattle.std.proofs.Common.{arith, ◌≡◌, ◌<◌, ◌^◌, unsigned_abs, to_z, of_z}
use mir.Syntax.{w128}
use Rattle.definitions.proofs.Casts.{cast_kept}
use Rattle.worth_core.proofs.Amounts.{amount-small}
use Rattle.worth_core.proofs.DividedNumbers.{divisor-some, divisor-few}
use Rattle.worth_core.proofs.measured.Divided.of_paid.Goals as goal

pub invariant_of-result : goal.invariant_of-result
invariant_of-result g c =
    let game = g.W.Worth.game c.args.game.now in
    let few = c.players.ensures.laws.few in
    let small = c.excess_from.ensures.small in
    let kept : to_z w128 (of_z w128 c.excess_from.result) ≡ c.excess_from.result =
    cast_kept w128 c.excess_from.result (omega (arith, small)) in
    record {
      small = rw kept small;
      some = rw c.divisor.ensures
          (divisor-some c.args.measure game.players c.args.s few c.requires.some c.requires.within);
      few = rw c.divisor.ensures (divisor-few c.args.measure game.players c.args.s few c.requires.within);
    }

pub excess_from-requires-clause-paid : goal.excess_from-requires-clause-paid
excess_from-requires-clause-paid g c =
    let small = amount-small c.args.x.now c.args.s c.players-2.ensures.shares in
    let paid : unsigned_abs c.args.paid < 2 ^ 117 = rw c.requires.paid small in
    rw (cast_kept w128 c.args.paid (omega arith)) paid
