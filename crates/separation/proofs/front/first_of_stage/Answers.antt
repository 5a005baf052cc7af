use Rattle.std.proofs.Common.{◌≡◌, ◌∙◌, ℕ, None, length, ap, arith, subst}
use Rattle.definitions.specs.Coalitions.{grand_coalition}
use Rattle.separation.specs.Making.{both_columns, inner_columns}
use Rattle.separation.specs.Scanned.{game_of, NoneOf}
use Rattle.separation.proofs.InnerColumns.{length-inner}
use Rattle.separation.proofs.InFront.{whole_first, earlier_first, alone_first, none_in_front}
use Rattle.separation.proofs.front.first_of_stage.Goals as goal

pub returns-in-Some : goal.returns-in-Some
returns-in-Some g c =
    let scan = c.args.scan.now in
    let front = c.args.front.now in
    let all = c.all-all.ensures ∙ ap grand_coalition scan.program.now.count in
    whole_first scan front.family front.levels.now c.in-Some.place (rw all at c.in-Some.ensures)

pub returns-in-Some-first_of_levels : goal.returns-in-Some-first_of_levels
returns-in-Some-first_of_levels g c =
    let scan = c.args.scan.now in
    let front = c.args.front.now in
    let all = c.all-all.ensures ∙ ap grand_coalition scan.program.now.count in
    earlier_first scan front.family front.levels.now c.in-Some-first_of_levels.place
    (subst (λ (s : ℕ). NoneOf scan (both_columns (game_of scan) s None)) all c.in_default.ensures)
    c.in-Some-first_of_levels.ensures

pub overflow_sub-result : goal.overflow_sub-result
overflow_sub-result g c =
    let scan = c.args.scan.now in
    let p = scan.program.now in
    let front = c.args.front.now in
    let first : p.first ≡ length (inner_columns front.family (game_of scan) front.levels.now) =
    cc (p.first_is, c.requires) in
    omega (arith, length-inner front.family (game_of scan) front.levels.now)

pub returns : goal.returns
returns g c =
    let scan = c.args.scan.now in
    let p = scan.program.now in
    let front = c.args.front.now in
    let all = c.all-all.ensures ∙ ap grand_coalition p.count in
    let first : p.first ≡ length (inner_columns front.family (game_of scan) front.levels.now) =
    cc (p.first_is, c.requires) in
    rw c.from.ensures (alone_first scan front.family front.levels.now c.in_ok-place.place p.first first
    (subst (λ (s : ℕ). NoneOf scan (both_columns (game_of scan) s None)) all c.in_default.ensures)
    c.in_default-first_of_levels.ensures (c.in_ok-place.ensures {u = tt}))

pub returns-in_err-place : goal.returns-in_err-place
returns-in_err-place g c =
    let scan = c.args.scan.now in
    let front = c.args.front.now in
    let all = c.all-all.ensures ∙ ap grand_coalition scan.program.now.count in
    rw c.from_residual.ensures (none_in_front scan front.family front.levels.now
    (subst (λ (s : ℕ). NoneOf scan (both_columns (game_of scan) s None)) all c.in_default.ensures)
    c.in_default-first_of_levels.ensures (c.in_err-place.ensures {u = tt}))
