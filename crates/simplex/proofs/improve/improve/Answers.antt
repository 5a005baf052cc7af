use Rattle.std.proofs.Common.{rules, arith, refl, ◌∙◌, FitsSigned}
use mir.Syntax.{w128}
use Rattle.std.proofs.lemmas.Int.{to_z-of_z}
use Rattle.simplex.specs.Improving.{IsImproving, HasDirection}
use Rattle.simplex.proofs.Minors.{tame_of}
use Rattle.simplex.specs.Replacing.{IsReplaced}
use Rattle.simplex.proofs.Replaced.{can_replace}
use Rattle.simplex.proofs.States.{holds_after_use}
use Rattle.simplex.proofs.Steps
use Rattle.simplex.proofs.improve.improve.Given.{Over}
use Rattle.simplex.proofs.improve.improve.Goals.{After-load_column-column, In-Some-least_ratio, After-replace}
use Rattle.simplex.proofs.improve.improve.Goals as goal

pub loop-id-init : goal.loop-id-init
loop-id-init g c = record { same = refl; same_players = refl; state = c.requires }

pub multipliers_of-m-requires-clause-rows : goal.multipliers_of-m-requires-clause-rows
multipliers_of-m-requires-clause-rows g c = omega (arith, g.met.C.Columns.lawful c.loop-id.columns)

pub multipliers_of-m-requires-clause-positive : goal.multipliers_of-m-requires-clause-positive
multipliers_of-m-requires-clause-positive g c =
    let fd : FitsSigned w128 c.loop-id.work.den = search rules in
    simp to_z-of_z c.loop-id.invariant.state.table.positive

pub multipliers_of-m-requires-clause-small : goal.multipliers_of-m-requires-clause-small
multipliers_of-m-requires-clause-small g c =
    Steps.inverse_small _ _ _ (tame_of _ (g.met.C.Columns.lawful c.loop-id.columns)) c.loop-id.invariant.state

pub multipliers_of-m-requires-clause-costs_small : goal.multipliers_of-m-requires-clause-costs_small
multipliers_of-m-requires-clause-costs_small g c =
    Steps.costs_small _ _ _ (tame_of _ (g.met.C.Columns.lawful c.loop-id.columns)) c.loop-id.invariant.state

pub multipliers_of-m-requires-clause-den_small : goal.multipliers_of-m-requires-clause-den_small
multipliers_of-m-requires-clause-den_small g c =
    let fd : FitsSigned w128 c.loop-id.work.den = search rules in
    simp to_z-of_z
    (Steps.den_small _ _ _ (tame_of _ (g.met.C.Columns.lawful c.loop-id.columns)) c.loop-id.invariant.state)

pub improving_in-requires : goal.improving_in-requires
improving_in-requires g c = c.multipliers_of-m.ensures.count ∙ c.loop-id.invariant.state.rows_is

pub returns-in_default-clause-same : goal.returns-in_default-clause-same
returns-in_default-clause-same g c = c.improving_in.ensures.same ∙ c.loop-id.invariant.same

pub returns-in_default-clause-same_players : goal.returns-in_default-clause-same_players
returns-in_default-clause-same_players g c = c.improving_in.ensures.same_players ∙ c.loop-id.invariant.same_players

pub returns-in_default-clause-state : goal.returns-in_default-clause-state
returns-in_default-clause-state g c =
    rw c.improving_in.ensures.same
    (holds_after_use (IsImproving _ c.args.part) c.loop-id.work _ _ c.loop-id.invariant.state)

pub returns-in_default-clause-answer : goal.returns-in_default-clause-answer
returns-in_default-clause-answer g c =
    let fd : FitsSigned w128 c.loop-id.work.den = search rules in (
      simp to_z-of_z at c.multipliers_of-m.ensures,
      rw c.improving_in.ensures.same (c.in_default.ensures {u = tt}).answer,
    )

-- the column that enters, as it was loaded
entering : (g : Over) (c : After-load_column-column g)
    → Steps.Enters (g.C.Columns.program c.improving_in.new.columns) c.args.part c.loop-id.work
    c.multipliers_of-m.result.num.items c.multipliers_of-m.result.den c.in-Some.id c.load_column-column.result
entering g c =
    let fd : FitsSigned w128 c.loop-id.work.den = search rules in
    let enter = c.in-Some.ensures {u = tt} in
    record {
      tame = tame_of _ (g.met.C.Columns.lawful c.improving_in.new.columns);
      state = rw enter.same c.loop-id.invariant.state;
      multipliers = simp to_z-of_z at c.multipliers_of-m.ensures;
      improving = rw enter.same enter.answer;
      loaded = c.load_column-column.ensures;
    }

pub load_column-column-requires-clause-column : goal.load_column-column-requires-clause-column
load_column-column-requires-clause-column g c =
    let enter = c.in-Some.ensures {u = tt} in rw enter.same enter.answer.is_column

pub load_column-column-requires-clause-rows : goal.load_column-column-requires-clause-rows
load_column-column-requires-clause-rows g c = rw c.improving_in.ensures.same c.loop-id.invariant.state.rows_is

pub weights_of-weights-requires-clause-rows : goal.weights_of-weights-requires-clause-rows
weights_of-weights-requires-clause-rows g c = omega (arith, g.met.C.Columns.lawful c.loop-id.columns)

pub weights_of-weights-requires-clause-small : goal.weights_of-weights-requires-clause-small
weights_of-weights-requires-clause-small g c =
    Steps.inverse_small _ _ _ (tame_of _ (g.met.C.Columns.lawful c.loop-id.columns)) c.loop-id.invariant.state

pub weights_of-weights-requires-clause-column_small : goal.weights_of-weights-requires-clause-column_small
weights_of-weights-requires-clause-column_small g c =
    Steps.loaded_small
    (entering g (goal.at.weights_of-weights-requires-clause-column_small g c).After-load_column-column)

pub weights_of-weights-requires-clause-weights_small : goal.weights_of-weights-requires-clause-weights_small
weights_of-weights-requires-clause-weights_small g c =
    Steps.weights_small
    (entering g (goal.at.weights_of-weights-requires-clause-weights_small g c).After-load_column-column)

pub least_ratio-requires-clause-rows : goal.least_ratio-requires-clause-rows
least_ratio-requires-clause-rows g c = omega (arith, g.met.C.Columns.lawful c.loop-id.columns)

pub least_ratio-requires-clause-small : goal.least_ratio-requires-clause-small
least_ratio-requires-clause-small g c =
    Steps.tracked_small _ _ _ (tame_of _ (g.met.C.Columns.lawful c.loop-id.columns)) c.loop-id.invariant.state

pub least_ratio-requires-clause-weights_small : goal.least_ratio-requires-clause-weights_small
least_ratio-requires-clause-weights_small g c =
    Steps.ratio_small (entering g (goal.at.least_ratio-requires-clause-weights_small g c).After-load_column-column)
    c.weights_of-weights.result c.weights_of-weights.ensures

pub returns-in_default-least_ratio-clause-same : goal.returns-in_default-least_ratio-clause-same
returns-in_default-least_ratio-clause-same g c = c.improving_in.ensures.same ∙ c.loop-id.invariant.same

pub returns-in_default-least_ratio-clause-same_players : goal.returns-in_default-least_ratio-clause-same_players
returns-in_default-least_ratio-clause-same_players g c =
    c.improving_in.ensures.same_players ∙ c.loop-id.invariant.same_players

pub returns-in_default-least_ratio-clause-state : goal.returns-in_default-least_ratio-clause-state
returns-in_default-least_ratio-clause-state g c =
    rw c.improving_in.ensures.same
    (holds_after_use (IsImproving _ c.args.part) c.loop-id.work _ _ c.loop-id.invariant.state)

pub returns-in_default-least_ratio-clause-answer : goal.returns-in_default-least_ratio-clause-answer
returns-in_default-least_ratio-clause-answer g c =
    holds_after_use (HasDirection (g.C.Columns.program c.improving_in.new.columns) c.args.part) c.loop-id.work _ _
    (Steps.endless (entering g (goal.at.returns-in_default-least_ratio-clause-answer g c).After-load_column-column)
    c.weights_of-weights.result c.weights_of-weights.ensures (c.in_default-least_ratio.ensures {u = tt}))

pub price_of-cost-requires : goal.price_of-cost-requires
price_of-cost-requires g c = let enter = c.in-Some.ensures {u = tt} in rw enter.same enter.answer.is_column

pub replace-requires-clause-few : goal.replace-requires-clause-few
replace-requires-clause-few g c = omega (arith, g.met.C.Columns.lawful c.loop-id.columns)

pub replace-requires-clause-place : goal.replace-requires-clause-place
replace-requires-clause-place g c = (c.in-Some-least_ratio.ensures {u = tt}).place

pub replace-requires-clause-apart : goal.replace-requires-clause-apart
replace-requires-clause-apart g c = c.loop-id.invariant.state.table.inverse.basis.apart

-- the facts of a step
step_facts : (g : Over) (c : In-Some-least_ratio g)
    → Steps.Enters (g.C.Columns.program c.improving_in.new.columns) c.args.part c.loop-id.work
    c.multipliers_of-m.result.num.items c.multipliers_of-m.result.den c.in-Some.id c.load_column-column.result
    → Steps.Step (g.C.Columns.program c.improving_in.new.columns) c.args.part c.loop-id.work
    c.weights_of-weights.result
    c.in-Some-least_ratio.p c.in-Some.id
step_facts g c f =
    Steps.step_of f c.weights_of-weights.result c.weights_of-weights.ensures c.in-Some-least_ratio.p
    (c.in-Some-least_ratio.ensures {u = tt})

pub replace-requires-clause-can : goal.replace-requires-clause-can
replace-requires-clause-can g c =
    let at = goal.at.replace-requires-clause-can g c in
    let facts = step_facts g at.In-Some-least_ratio (entering g at.After-load_column-column) in
    let can = can_replace _ _ _ _ _ facts.enters in
    record { inverse = can.inverse; tracked = can.tracked }

-- what `replace` made of the state
replaced : (g : Over) (c : After-replace g)
    → IsReplaced c.loop-id.work c.weights_of-weights.result c.in-Some-least_ratio.p c.in-Some.id
    c.price_of-cost.result c.replace.new.self
replaced g c =
    let fc : FitsSigned w128 c.price_of-cost.result = search rules in
    let r = simp to_z-of_z at c.replace.ensures in
    record {
      rows = r.rows;
      inverse = r.inverse;
      tracked = r.tracked;
      den = r.den;
      ids = r.ids;
      costs = r.costs;
    }

pub loop-id-smaller : goal.loop-id-smaller
loop-id-smaller g c =
    let at = goal.at.loop-id-smaller g c in
    Steps.smaller _ _ _ _ _ _ (step_facts g at.In-Some-least_ratio (entering g at.After-load_column-column)) _ _
    c.price_of-cost.ensures (replaced g at.After-replace)

pub loop-id-preserved : goal.loop-id-preserved
loop-id-preserved g c =
    let at = goal.at.loop-id-preserved g c in
    let facts = step_facts g at.In-Some-least_ratio (entering g at.After-load_column-column) in
    record {
      same = (c.in-Some.ensures {u = tt}).same ∙ c.loop-id.invariant.same;
      same_players = (c.in-Some.ensures {u = tt}).same_players ∙ c.loop-id.invariant.same_players;
      state = Steps.next_state _ _ _ _ _ _ facts _ _ c.price_of-cost.ensures (replaced g at.After-replace);
    }
