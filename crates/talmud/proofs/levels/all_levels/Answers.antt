use Rattle.std.proofs.Common.{[], ◌∷◌, arith}
use Rattle.talmud.proofs.Making.{AreLevels-halves, AreLevels-rest}
use Rattle.talmud.proofs.levels.all_levels.Goals as goal
use Rattle.talmud.proofs.levels.all_levels.Goals.{then-division-n+in_ok-rest_level+in_ok-push, else-division-n}
use Rattle.definitions.proofs.Alls.{all_join}

pub returns-clause-levels : goal.returns-clause-levels
returns-clause-levels c =
    let halves = c.in_ok-levels.ensures.levels in
    elim c.if-division-n.branch [
      | then-division-n+in_ok-rest_level+in_ok-push w ↦
          let pushed = w.in_ok-push.ensures {u = tt} in
          rw (w.levels-is, pushed.items)
          (AreLevels-rest _ _ _ _ _ _ _ c.in_ok-levels.levels.items _ halves w.in_ok-rest_level.ensures.level)
      | else-division-n w ↦ rw w.levels-is
          (AreLevels-halves _ _ _ _ _ _ _ c.in_ok-levels.levels.items halves
          (omega arith))
    ]

pub returns-clause-lowest : goal.returns-clause-lowest
returns-clause-lowest c =
    let halves = c.in_ok-levels.ensures.lowest in
    elim c.if-division-n.branch [
      | then-division-n+in_ok-rest_level+in_ok-push w ↦
          let pushed = w.in_ok-push.ensures {u = tt} in
          rw (w.levels-is, pushed.items)
          (all_join _ c.in_ok-levels.levels.items (_ ∷ []) halves (w.in_ok-rest_level.ensures.lowest, tt))
      | else-division-n w ↦ rw w.levels-is halves
    ]
