use Rattle.std.proofs.Common.{◌∙◌}
use Rattle.simplex.proofs.AnswerForm.{is_answer}
use Rattle.simplex.proofs.Minors.{tame_of}
use Rattle.simplex.proofs.Tableaus
use Rattle.simplex.proofs.Ends
use Rattle.simplex.proofs.Solutions
use Rattle.simplex.proofs.solving.solve_in.Goals as goal

pub unreachable-requires : goal.unreachable-requires
unreachable-requires g c =
    let e = c.in_default.ensures {u = tt} in
    Ends.no_first_direction (g.C.Columns.program c.improve.new.columns) c.improve.new.work e.state e.answer

pub returns-then-has_artificial_weight-clause-answer : goal.returns-then-has_artificial_weight-clause-answer
returns-then-has_artificial_weight-clause-answer g c =
    let m = c.in-Some._bounds in
    let e = c.in-Some.ensures {u = tt} in
    rw e.same at
    (Ends.no_solution (g.C.Columns.program c.improve.new.columns) c.improve.new.work m.num.items m.den e.state
    e.answer.0 e.answer.1 (c.if-has_artificial_weight.ensures {u = tt}))

pub returns-in_default-improve-clause-answer : goal.returns-in_default-improve-clause-answer
returns-in_default-improve-clause-answer g c =
    let P = g.C.Columns.program c.improve-2.new.columns in
    let w = c.improve-2.new.work in
    let e = c.in_default-improve.ensures {u = tt} in
    let same = e.same ∙ c.loop-k.invariant.same in (
      rw same at (Solutions.has_solution P w e.state),
      rw same at (Solutions.has_ray P w e.state e.answer),
    )

pub answer_of-requires-clause-small : goal.answer_of-requires-clause-small
answer_of-requires-clause-small g c =
    let w = c.improve-2.new.work in
    let e = c.in-Some-improve.ensures {u = tt} in
    Tableaus.den_small (g.C.Columns.program c.improve-2.new.columns) w
    (tame_of (g.C.Columns.program c.improve-2.new.columns) (g.met.C.Columns.lawful c.improve-2.new.columns))
    e.state.table.inverse

pub returns-clause-answer : goal.returns-clause-answer
returns-clause-answer g c =
    let P = g.C.Columns.program c.improve-2.new.columns in
    let w = c.improve-2.new.work in
    let e = c.in-Some-improve.ensures {u = tt} in
    let m = c.in-Some-improve.multipliers in
    let o = c.answer_of.result in
    let same = e.same ∙ c.loop-k.invariant.same in
    rw c.answer_of.ensures.multipliers (rw same at (is_answer P w m.num.items m.den o.weights.items o.weight_den
    e.state e.answer.0 e.answer.1 c.answer_of.ensures.weights
    (tame_of P (g.met.C.Columns.lawful c.improve-2.new.columns))))
