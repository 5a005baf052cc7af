use Rattle.std.proofs.Common.{map, arith, ◌+◌, ◌≡◌, ℕ, sym, ap, ◌∙◌, slice_index, subst}
use Rattle.definitions.specs.Coalitions.{has_player}
use Rattle.assignment_games.proofs.Choices.{IsBestChoice, choice_start, choice_skip}
use Rattle.assignment_games.proofs.Choices.{choice_keep, choice_raise, best_choice}
use Rattle.matrices.specs.Rows.{entries_of}
use Rattle.assignment_games.proofs.Evenness.{sides_few}
use Rattle.assignment_games.proofs.Table.{less_mask, pair_below, rest_in_table}
use Rattle.assignment_games.proofs.Table.{pair_in_table, masks_few}
use Rattle.assignment_games.proofs.Games.{filled_few}
use Rattle.assignment_games.proofs.values.best_with.Goals as goal
use Rattle.assignment_games.proofs.values.best_with.Goals.{then-contains+then-value-pair}
use Rattle.assignment_games.proofs.values.best_with.Goals.{then-contains+else-value-pair, else-contains}
use Rattle.definitions.proofs.Parts.{has_player-within}

pub offset_bounds-values-rest-inside : goal.offset_bounds-values-rest-inside
offset_bounds-values-rest-inside c =
    let lt = less_mask c.args.s c.without-rest.result c.args.b c.requires.member c.without-rest.ensures in
    let same = c.rest.view_is in
    let few =
    masks_few (c.args.buyers + c.args.sellers) c.args.s
    (sides_few (map (λ row. row.items) c.args.matrix.now) c.args.buyers c.args.sellers c.requires.sides)
    c.requires.within in
    omega (arith, lt, same, few)

pub bounds-values-rest-inside : goal.bounds-values-rest-inside
bounds-values-rest-inside c =
    let lt = less_mask c.args.s c.without-rest.result c.args.b c.requires.member c.without-rest.ensures in
    let same = c.rest.view_is in
    let len = c.requires.filled.0 in
    omega (arith, lt, same, len)

pub loop-j-init : goal.loop-j-init
loop-j-init c =
    let a = c.args in
    let r = c.without-rest.result in
    rw c.rest.view_is
    (choice_start (entries_of (map (λ row. row.items) a.matrix.now)) a.buyers (has_player a.s) a.b
    (slice_index a.values.now r)
    (rest_in_table (entries_of (map (λ row. row.items) a.matrix.now)) a.buyers a.values.now a.s r a.b
    c.requires.filled c.requires.member c.without-rest.ensures))

pub offset_bounds-values-others-inside : goal.offset_bounds-values-others-inside
offset_bounds-values-others-inside c =
    let a = c.args in
    let lt =
    pair_below a.buyers a.s c.without-rest.result c.without-others.result a.b c.loop-j.j c.requires.row
    c.requires.member (sym c.contains.ensures ∙ c.if-contains.true) c.without-rest.ensures
    c.without-others.ensures in
    let same = c.others.view_is in
    let few =
    masks_few (a.buyers + a.sellers) a.s
    (sides_few (map (λ row. row.items) a.matrix.now) a.buyers a.sellers c.requires.sides) c.requires.within in
    omega (arith, lt, same, few)

pub bounds-values-others-inside : goal.bounds-values-others-inside
bounds-values-others-inside c =
    let a = c.args in
    let lt =
    pair_below a.buyers a.s c.without-rest.result c.without-others.result a.b c.loop-j.j c.requires.row
    c.requires.member (sym c.contains.ensures ∙ c.if-contains.true) c.without-rest.ensures
    c.without-others.ensures in
    let same = c.others.view_is in
    let len = c.requires.filled.0 in
    omega (arith, lt, same, len)

pub overflow_add-pair : goal.overflow_add-pair
overflow_add-pair c =
    let a = c.args in
    let rows = map (λ row. row.items) a.matrix.now in
    let few = sides_few rows a.buyers a.sellers c.requires.sides in
    let lt =
    pair_below a.buyers a.s c.without-rest.result c.without-others.result a.b c.loop-j.j c.requires.row
    c.requires.member (sym c.contains.ensures ∙ c.if-contains.true) c.without-rest.ensures
    c.without-others.ensures in
    let within = c.requires.within in
    let le =
    filled_few rows a.buyers a.sellers a.values.now a.s c.without-others.result c.requires.sides.game.entries
    (omega (arith, few)) (omega (arith, within)) c.requires.filled lt in
    let same = ap (slice_index a.values.now) c.others.view_is in
    let cheap = c.together.ensures.small in
    omega (arith, le, same, cheap)

pub loop-j-preserved : goal.loop-j-preserved
loop-j-preserved c =
    let a = c.args in
    let m = entries_of (map (λ row. row.items) a.matrix.now) in
    let r = c.without-rest.result in
    elim c.if-contains.branch [
      | then-contains+then-value-pair w ↦
          let mj = sym c.contains.ensures ∙ w.if-contains.true in
          let o = w.without-others.result in
          let rest =
          pair_in_table (entries_of (map (λ row. row.items) a.matrix.now)) a.buyers a.values.now a.s r o a.b
          c.loop-j.j c.requires.filled c.requires.row c.requires.member mj c.without-rest.ensures
          w.without-others.ensures in
          let same = ap (slice_index a.values.now) w.others.view_is in
          let is = w.together.ensures.value in
          let lt = w.if-value-pair.true in
          let now : c.if-contains.value ≡ m a.b c.loop-j.j + slice_index a.values.now o =
          w.value-is ∙ omega (arith, same, is) in
          subst (λ (v : ℕ). IsBestChoice m a.buyers (has_player a.s) a.b (c.loop-j.j + 1) v) (sym now)
          (choice_raise m a.buyers (has_player a.s) a.b c.loop-j.j c.loop-j.value (slice_index a.values.now o) mj
          rest (omega (arith, lt, same, is)) c.loop-j.invariant)
      | then-contains+else-value-pair w ↦
          let mj = sym c.contains.ensures ∙ w.if-contains.true in
          let o = w.without-others.result in
          let rest =
          pair_in_table (entries_of (map (λ row. row.items) a.matrix.now)) a.buyers a.values.now a.s r o a.b
          c.loop-j.j c.requires.filled c.requires.row c.requires.member mj c.without-rest.ensures
          w.without-others.ensures in
          let same = ap (slice_index a.values.now) w.others.view_is in
          let is = w.together.ensures.value in
          let le = w.if-value-pair.false in
          rw w.value-is
          (choice_keep m a.buyers (has_player a.s) a.b c.loop-j.j c.loop-j.value (slice_index a.values.now o) rest
          (omega (arith, le, same, is)) c.loop-j.invariant)
      | else-contains w ↦
          rw w.value-is
          (choice_skip m a.buyers (has_player a.s) a.b c.loop-j.j c.loop-j.value
          (sym c.contains.ensures ∙ w.if-contains.false) c.loop-j.invariant)
    ]

pub returns : goal.returns
returns c =
    let a = c.args in
    let end = c.loop-j-test.false in
    best_choice (entries_of (map (λ row. row.items) a.matrix.now)) a.buyers (has_player a.s) a.b c.loop-j.j
    c.loop-j.value c.requires.row c.requires.member
    (λ j e.
    let k = has_player-within (a.buyers + a.sellers) a.s (a.buyers + j) c.requires.within e in omega (arith, k, end))
    c.loop-j.invariant
