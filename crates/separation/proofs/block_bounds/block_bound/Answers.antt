use Rattle.std.proofs.Common.{◌≡◌, ◌+◌, ◌*◌, ◌<◌, ◌^◌, ℕ, inl, inr, sym, subst}
use Rattle.std.proofs.Common.{arith, ◌∙◌, to_z, of_z, rules}
use mir.Syntax.{w64}
use Rattle.definitions.proofs.Cases.{last_or_less_of}
use Rattle.definitions.proofs.Ring.{linear}
use Rattle.separation.proofs.Balance.{masks_of}
use Rattle.separation.proofs.Searches.{below_64}
use Rattle.separation.proofs.block_bounds.block_bound.Goals as goal

pub overflow_shl-players : goal.overflow_shl-players
overflow_shl-players g c = below_64 c.args.players c.requires.few

pub counted_worth-worth-requires : goal.counted_worth-worth-requires
counted_worth-worth-requires g c =
    let mask = masks_of c.args.players c.requires.few in
    rw (← c.requires.players) (omega arith)

pub loop-s-preserved : goal.loop-s-preserved
loop-s-preserved g c =
    let game = g.W.Worth.game c.args.game.now in
    let worth = game.worth in
    let s = c.loop-s.s in
    let mask = masks_of c.args.players c.requires.few in
    let within : s < 2 ^ game.players = rw (← c.requires.players) (omega arith) in
    let upper : s < 256 * c.args.block + 256 = omega arith in
    let inv = c.loop-s.invariant in
    let more = c.greater-most.ensures in
    let first = more.first in
    let positive = inv.positive in
    let added = c.counted_worth-worth.result in
    let kept : to_z w64 (of_z w64 c.greater-most.result) ≡ c.greater-most.result = search rules in
    let whole : to_z w64 (of_z w64 added) ≡ added = search rules in
    let second = rw whole at more.second in
    let either =
    rw whole at
    more.either in
    rw kept (record {
      positive = omega (arith, linear);
      attained = λ y some bounds. elim either [
        | inl older ↦ rw older (inv.attained y some bounds)
        | inr here ↦ rw (here ∙ c.counted_worth-worth.ensures.is)
            (bounds s c.loop-s.auto.s upper within)
      ];
      greatest = λ j low lt. elim (last_or_less_of j c.loop-s.s lt) [
        | inl same ↦
            let here = rw c.counted_worth-worth.ensures.is at second in
            rw same here
        | inr before ↦
            let less = inv.greatest j low before in
            omega (arith, linear)
      ];
    })

pub returns : goal.returns
returns g c =
    let inv = c.loop-s.invariant in
    let mask = masks_of c.args.players c.requires.few in
    record {
      positive = inv.positive;
      attained = inv.attained;
      greatest = λ j low lt within.
          let below = subst (λ (n : ℕ). j < 2 ^ n) (sym c.requires.players) within in
          inv.greatest j low (omega arith);
    }
