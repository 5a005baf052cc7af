use Rattle.std.proofs.Common.{◌≡◌, ◌≤◌, ◌<◌, ◌+◌, ◌*◌, ◌%◌, ◌^◌, ℕ, Bool, true}
use Rattle.std.proofs.Common.{false, ℤ, pos, ◌*ℤ◌, ◌<ℤ◌, if◌then◌else◌, Some, None, slice_index_or, arith}
use Rattle.std.proofs.Common.{subst, unsigned_abs, to_z, of_z, ◌≤ℤ◌, rules}
use mir.Syntax.{w64}
use Rattle.definitions.proofs.Casts.{cast_kept}
use Rattle.definitions.specs.declared.Measure.{Measure}
use Rattle.std.specs.Prelude.{List}
use Rattle.separation.specs.Making.{plain}
use Rattle.separation.specs.Fronts.{front_level, has_mark}
use Rattle.separation.specs.Values.{column_value, counted, Improves}
use Rattle.separation.specs.Scanned.{game_of, CoalitionImproves, value_in, worth_in, gap_in}
use Rattle.separation.specs.declared.column.Column.{Column}
use Rattle.simplex.proofs.Sizes.{at_most_is}
use Rattle.separation.proofs.Picked.{highest_skipped}
use Rattle.separation.proofs.SmallBounds.{least_small}
use Rattle.separation.proofs.Products.{below_bound, gap_bound}
use Rattle.separation.proofs.block_bounds.highest_of_word.Goals as goal

-- a column that improves is there, and its cost above its value
improving_is_above : (measure : Measure) (num : List ℤ) (den : ℤ) (n : ℕ) (costs : Bool) (column : Column) (b : Bool)
    → Improves measure num den n costs (if b then Some column else None)
    → column_value measure num n column <ℤ (den *ℤ counted costs column.cost)
improving_is_above measure num den n costs column true r = r
improving_is_above measure num den n costs column false r = absurd r

-- a least number as it is kept
least_kept : (z : ℤ) → unsigned_abs z ≤ 2 ^ 60 → to_z w64 (of_z w64 z) ≡ z
least_kept z small = cast_kept w64 z (omega (arith, small))

pub height_bound-requires-clause-least : goal.height_bound-requires-clause-least
height_bound-requires-clause-least g c =
    let small =
    least_small c.args.low.now (c.args.place % 4) c.args.least (2 ^ 60) (omega arith) c.requires.least c.requires.low
    in
    rw (least_kept c.args.least small) small

pub returns-then-height_bound-before-clause-highest : goal.returns-then-height_bound-before-clause-highest
returns-then-height_bound-before-clause-highest g c = λ a h.
    let scan = c.args.scan.now in
    let p = scan.program.now in
    let m = scan.m.now in
    let low = c.args.low.now in
    let place = c.args.place in
    let before = c.args.before in
    let bound = c.height_bound.result in
    let small = least_small low (place % 4) c.args.least (2 ^ 60) (omega arith) c.requires.least c.requires.low in
    let kept : to_z w64 (of_z w64 bound) ≡ bound = search rules in
    let kept_height : to_z w64 (of_z w64 before.height) ≡ before.height = search rules in
    let le : bound ≤ℤ before.height =
    rw kept_height at (subst (λ (z : ℤ). z ≤ℤ to_z w64 (of_z w64 before.height)) kept
    (at_most_is _ _ c.if-height_bound-before.true)) in
    let least = λ (j : ℕ) (lower : 64 * place ≤ j) (upper : j < 64 * place + 64).
    c.requires.least.least (j % 256) (omega arith) (omega arith) in
    let bounded = λ (j : ℕ) (lower : 64 * place ≤ j) (upper : j < 64 * place + 64) (within : j < 2 ^ p.players).
    rw (least_kept c.args.least small) at (c.height_bound.ensures j (omega arith) (omega arith) within) in
    highest_skipped (λ (j : ℕ). CoalitionImproves scan j) (gap_in scan) a (64 * place) (2 ^ p.players) before.base
    before.height before.coalition (64 * place + 64) (λ j lower upper within r.
    let column = plain (game_of scan) j (front_level p.front) in
    below_bound before.base (slice_index_or low (j % 256) (pos 0)) (value_in scan j) (m.den *ℤ worth_in scan j)
    c.args.least bound before.height (c.requires.values j lower upper)
    (improving_is_above p.measure m.num.items m.den p.players scan.with_costs column (has_mark p.marks j) r)
    (least j lower upper) (bounded j lower upper within) le) (λ j lower upper within.
    gap_bound before.base (slice_index_or low (j % 256) (pos 0)) (value_in scan j) (m.den *ℤ worth_in scan j)
    c.args.least bound before.height (c.requires.values j lower upper) (least j lower upper)
    (bounded j lower upper within) le)
    h
