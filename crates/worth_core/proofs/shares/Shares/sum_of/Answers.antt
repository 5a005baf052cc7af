use Rattle.std.proofs.Common.{◌<◌, sym, ◌∙◌, arith}
use Rattle.definitions.specs.Games.{share}
use Rattle.worth_core.proofs.MemberSums.{fits, added, left_out}
use Rattle.worth_core.proofs.shares.Shares.sum_of.Goals as goal
use Rattle.worth_core.proofs.shares.Shares.sum_of.Goals.{then-contains, else-contains}

pub overflow_add-sum : goal.overflow_add-sum
overflow_add-sum c =
    let players = c.players-i-end.ensures in
    let few : c.loop-i.i < 64 = omega (arith, c.loop-i-test.true, players.count, players.shares.few) in
    fits (share c.args.self.now) c.args.s c.loop-i.i _ c.loop-i.invariant c.num-sum.result few
    c.num-sum.ensures.small

pub loop-i-preserved : goal.loop-i-preserved
loop-i-preserved c =
    let a = share c.args.self.now in
    let s = c.args.s in
    let i = c.loop-i.i in
    let players = c.players-i-end.ensures in
    let few : i < 64 = omega (arith, c.loop-i-test.true, players.count, players.shares.few) in
    elim c.if-contains.branch [
      | then-contains w ↦ added a s i _ c.loop-i.invariant w.num-sum.result few w.num-sum.ensures.small
          (sym c.contains.ensures ∙ w.if-contains.true) w.num-sum.ensures.value _ w.sum-is
      | else-contains w ↦ left_out a s i _ c.loop-i.invariant (sym c.contains.ensures ∙ w.if-contains.false) _
          w.sum-is
    ]
