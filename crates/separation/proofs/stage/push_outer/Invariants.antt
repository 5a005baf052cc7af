use Rattle.separation.specs.Making.{EndsOuter}
use Rattle.separation.proofs.stage.push_outer.Given as goal

abbrev pub invariant-loop-s : goal.invariant-loop-s
invariant-loop-s g l = EndsOuter (g.W.Worth.game l.game) l.levels l.s l.fn.columns.items l.columns.items
