use Rattle.std.proofs.Common.{rules, ◌≡◌, ap, sym, ◌∙◌, pos, to_z, of_z, arith}
use mir.Syntax.{w64}
use Rattle.drawn_games.specs.Draws.{state, long_of}
use Rattle.drawn_games.specs.Numbers.{draws_before, table_number}
use Rattle.drawn_games.proofs.Lists.{drawn, one_more_from_1}
use Rattle.drawn_games.proofs.Numbered.{single-keeps, other-draws, single-number, other-number}
use Rattle.drawn_games.proofs.table_of_draws.table_numbers.Goals as goal
use Rattle.drawn_games.proofs.table_of_draws.table_numbers.Goals.{then-is_single+in_ok-push}
use Rattle.drawn_games.proofs.table_of_draws.table_numbers.Goals.{else-is_single+in_ok-push-2}

pub loop-s-preserved : goal.loop-s-preserved
loop-s-preserved c =
    let seed = c.args.seed in
    let s = c.loop-s.s in
    let at = c.loop-s.invariant in
    elim c.if-is_single.branch [
      | then-is_single+in_ok-push w ↦
          let single = sym c.is_single.ensures ∙ w.if-is_single.true in
          rw (w.draws-is, w.numbers-is) (
            omega arith,
            at.1 ∙ ap (state seed) (sym (single-keeps s single)),
            at.2,
            one_more_from_1 (table_number seed) s c.loop-s.numbers.items w.push.new.self.items _ at.0 at.3
                w.in_ok-push.ensures.items (sym (single-number seed s single)),
          )
      | else-is_single+in_ok-push-2 w ↦
          let other = sym c.is_single.ensures ∙ w.if-is_single.false in
          let k = draws_before s in
          let next = drawn seed k c.loop-s.draws.state w.long.new.self.state at.1 w.long.ensures.state in
          let kept : to_z w64 (of_z w64 w.from.result) ≡ w.from.result = search rules in
          rw (w.draws-is, w.numbers-is) (
            omega arith,
            next ∙ ap (state seed) (sym (other-draws s at.0 other)),
            w.long.ensures.within,
            one_more_from_1 (table_number seed) s c.loop-s.numbers.items w.push-else-is_single.new.self.items _
                at.0 at.3 w.in_ok-push-2.ensures.items
                (kept ∙ w.from.ensures ∙ ap pos (w.long.ensures.value ∙ ap long_of next)
                ∙ sym (other-number seed s other)),
          )
    ]
