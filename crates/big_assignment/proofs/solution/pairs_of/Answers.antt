use Rattle.std.proofs.Common.{◌+◌, ◌++◌, ◌∷◌, [], ◌<◌, ◌≤◌, ℕ, List, ap, sym}
use Rattle.std.proofs.Common.{◌∙◌, arith}
use Rattle.std.proofs.lemmas.Result.{IfOk-from_err}
use Rattle.big_assignment.specs.Deals.{mate_of}
use Rattle.big_assignment.specs.Mates.{pairs_from}
use Rattle.big_assignment.specs.Solutions.{player_pairs}
use Rattle.big_assignment.proofs.Snocs.{player_pairs_more, player_pairs_same}
use Rattle.big_assignment.proofs.solution.pairs_of.Goals as goal
use Rattle.big_assignment.proofs.solution.pairs_of.Goals.{then-column-columns+in_ok-push, else-column-columns}

pub returns-in_err-push : goal.returns-in_err-push
returns-in_err-push c = IfOk-from_err c.from_residual.result _ c.from_residual.ensures.0

pub loop-i-preserved : goal.loop-i-preserved
loop-i-preserved c =
    let mate = mate_of c.args.deal.now in
    let i = c.loop-i.i in
    let rows = c.args.rows in
    let at = c.mate-column.ensures in
    let small : mate i ≤ 32 = c.requires.columns i c.loop-i-test.true in
    elim c.if-column-columns.branch [
      | then-column-columns+in_ok-push w ↦
          let lt : mate i < c.args.columns = omega arith in
          let pushed = w.in_ok-push.ensures {u = tt} in
          ap (λ v. v.items) w.pairs-is ∙ pushed.items
          ∙ ap (λ (ps : List (ℕ × ℕ)). ps ++ (i, rows + c.mate-column.result) ∷ []) c.loop-i.invariant
          ∙ ap (λ (k : ℕ). player_pairs rows (pairs_from mate c.args.columns 0 i) ++ (i, rows + k) ∷ []) at
          ∙ sym (player_pairs_more rows mate c.args.columns i lt)
      | else-column-columns w ↦
          let ge : c.args.columns ≤ mate i = omega arith in
          ap (λ v. v.items) w.pairs-is ∙ c.loop-i.invariant ∙ sym (player_pairs_same rows mate c.args.columns i ge)
    ]
