use Rattle.std.proofs.Common.{ℕ, ◌*ℤ◌, ap, ◌∙◌, int_lt}
use Rattle.definitions.proofs.Scans.{filter-passed, filter-failed, int_lt-from_test}
use Rattle.definitions.specs.Games.{amount}
use Rattle.plain_programs.specs.Plain.{game_of}
use Rattle.plain_programs.proofs.blockers.blockers.Goals.{then-blocks+in_ok-push, else-blocks}
use Rattle.plain_programs.proofs.blockers.blockers.Goals as goal

pub loop-coalition-preserved : goal.loop-coalition-preserved
loop-coalition-preserved c =
    let x = c.args.point.now in
    let g = game_of c.args.table.now in
    let s = c.loop-coalition.coalition in
    let test = int_lt-from_test (amount x s) (x.den *ℤ g.worth s) _ c.blocks-in-loop-coalition.ensures in
    let blocking = λ (t : ℕ). int_lt (amount x t) (x.den *ℤ g.worth t) in
    elim c.if-blocks.branch [
      | then-blocks+in_ok-push w ↦ filter-passed blocking s _ _ (test ∙ w.if-blocks.true) c.loop-coalition.invariant
          (ap (λ v. v.items) w.masks-is ∙ w.in_ok-push.ensures.items)
      | else-blocks w ↦ filter-failed blocking s _ _ (test ∙ w.if-blocks.false) c.loop-coalition.invariant
          (ap (λ v. v.items) w.masks-is)
    ]
