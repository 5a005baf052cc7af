use Rattle.std.proofs.Common.{ℕ, [], Some, sym, subst}
use Rattle.std.specs.List.{AllByRecursion}
use Rattle.separation.specs.Fronts.{IsSmallLevel}
use Rattle.separation.specs.declared.front.Front.{Front}
use Rattle.separation.proofs.LazyColumns.{small_form, stage_columns_small, marking_of, stage_kept}
use Rattle.separation.proofs.ProperColumns.{found_short}
use Rattle.separation.proofs.lazy.Lazy.stage_with.Goals as goal

pub count-requires-clause-small : goal.count-requires-clause-small
count-requires-clause-small g c =
    small_form (g.W.Worth.game c.args.game.now).players [] c.args.levels.now c.requires.form.each

pub invariant_of-result-clause-small_levels : goal.invariant_of-result-clause-small_levels
invariant_of-result-clause-small_levels g c =
    subst (λ (n : ℕ). AllByRecursion (IsSmallLevel n) c.args.levels.now) (sym c.players-players.ensures.count)
    (small_form (g.W.Worth.game c.args.game.now).players [] c.args.levels.now c.requires.form.each)

pub invariant_of-result-clause-small : goal.invariant_of-result-clause-small
invariant_of-result-clause-small g c =
    let game = g.W.Worth.game c.args.game.now in
    stage_columns_small c.args.measure game (record { family = c.args.family; levels = c.args.levels })
    (Some c.outside_of.result) c.players-players.ensures.laws
    (small_form game.players [] c.args.levels.now c.requires.form.each)

pub invariant_of-result-clause-short : goal.invariant_of-result-clause-short
invariant_of-result-clause-short g c =
    let game = g.W.Worth.game c.args.game.now in
    let count = c.players-players.ensures.count in
    let front : Front = record { family = c.args.family; levels = c.args.levels } in
    let marking =
    marking_of c.players-players.result game.players c.args.levels.now c.args.span.now.kept c.outside_of.result
    count c.requires.spans (c.outside_of.ensures c.args.levels.now) in
    rw count (found_short c.args.measure game front c.outside_of.result c.requires.heads c.requires.count
    c.requires.form.each marking)

pub returns-clause-program : goal.returns-clause-program
returns-clause-program g c =
    let game = g.W.Worth.game c.args.game.now in
    (stage_kept (record { family = c.args.family; levels = c.args.levels }) c.args.measure game
    c.players-players.result c.args.span.now.kept c.outside_of.result c.players-players.ensures.count
    c.players-players.ensures.laws (small_form game.players [] c.args.levels.now c.requires.form.each)
    c.requires.spans (c.outside_of.ensures c.args.levels.now)).1
