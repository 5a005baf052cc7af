use Rattle.std.proofs.Common.{sym, refl, ◌∙◌, arith}
use Rattle.definitions.proofs.Members.{members-zero}
use Rattle.definitions.proofs.Sizes.{length-more_yes, length-more_no}
use Rattle.plain_programs.proofs.excesses.size.Goals as goal
use Rattle.plain_programs.proofs.excesses.size.Goals.{then-has_player, else-has_player}

pub loop-player-init : goal.loop-player-init
loop-player-init c = rw (members-zero c.args.coalition) (refl, omega arith)

pub loop-player-preserved : goal.loop-player-preserved
loop-player-preserved c =
    let s = c.args.coalition in
    let i = c.loop-player.player in
    elim c.if-has_player.branch [
      | then-has_player w ↦ rw w.count-is (
        let more = length-more_yes i s (sym c.has_player.ensures ∙ w.if-has_player.true) in
            omega (arith, more, c.loop-player.invariant.0),
        omega (arith, c.loop-player.invariant.1),
      )
      | else-has_player w ↦ rw w.count-is (
        let more = length-more_no i s (sym c.has_player.ensures ∙ w.if-has_player.false) in
            omega (arith, more, c.loop-player.invariant.0),
        omega (arith, c.loop-player.invariant.1),
      )
    ]
