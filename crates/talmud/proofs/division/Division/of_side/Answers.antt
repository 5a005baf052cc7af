use Rattle.std.proofs.Common.{arith}
use Rattle.talmud.specs.Division.{is_gain}
use Rattle.talmud.proofs.Sharing.{IsDivision-rest, IsDivision-all}
use Rattle.talmud.proofs.division.Division.of_side.Goals as goal
use Rattle.talmud.proofs.division.Division.of_side.Goals.{then-split-n, else-split-n}

pub invariant_of-result : goal.invariant_of-result
invariant_of-result c =
    let few = c.len-n.ensures.laws.few in
    elim c.if-split-n.branch [
      | then-split-n w ↦ rw w.result-is
          (record {
            some = omega arith;
            few = omega arith;
            small = omega arith;
          })
      | else-split-n w ↦ rw w.result-is
          (record { some = omega arith; few = omega arith; small = omega arith })
    ]

pub returns : goal.returns
returns c =
    let laws = c.len-n.ensures.laws in
    let count = c.len-n.ensures.count in
    let split = c.half_players-split.ensures.split in
    elim c.if-split-n.branch [
      | then-split-n w ↦
          let lt = rw count at w.if-split-n.true in
          rw (w.result-is, count)
          (IsDivision-rest c.args.estate c.args.claims.now (is_gain c.args.side) c.args.amount _ _ laws
          c.requires.side
          c.requires.divided split lt (c.half_players-split.ensures.stop lt))
      | else-split-n w ↦
          let le = rw count at w.if-split-n.false in
          rw (w.result-is, count)
          (IsDivision-all c.args.estate c.args.claims.now (is_gain c.args.side) c.args.amount _ _ laws c.requires.cut
          c.requires.side c.requires.divided split le)
    ]
