use Rattle.std.proofs.Common.{◌≡◌, ℕ, ◌-◌, ◌*◌, ◌^◌, ◌<◌, ◌≤◌, ℤ, ◌*ℤ◌, unsigned_abs}
use Rattle.std.proofs.Common.{map, arith, ap, ◌∙◌, to_z, of_z, mul-le-mul}
use Rattle.std.specs.List.{range_with_len}
use mir.Syntax.{w128}
use Rattle.definitions.proofs.Casts.{cast_kept}
use Rattle.definitions.proofs.Scans.{map-more}
use Rattle.plain_programs.proofs.SmallExcesses.{measured-fits}
use Rattle.definitions.specs.Games.{measured_excess}
use Rattle.plain_programs.specs.Plain.{game_of, excess_limit, scale_limit}
use Rattle.definitions.specs.declared.Measure.{Measure}
use Rattle.definitions.specs.declared.Measure.TheVariants.{Plain, PerHead}
use Rattle.plain_programs.proofs.excesses.excess_list.Goals as goal

-- a scale and an excess within their limits have a product within 128 bits
product_fits : (measure : Measure) (scale e : ℤ) → unsigned_abs scale ≤ scale_limit measure
    → unsigned_abs e < excess_limit measure
    → unsigned_abs (to_z w128 (of_z w128 scale)) * unsigned_abs (to_z w128 (of_z w128 e)) < 2 ^ 127
product_fits Plain scale e h k =
    let below : unsigned_abs e ≤ 2 ^ 89 - 1 = omega arith in
    rw (cast_kept w128 scale (omega arith), cast_kept w128 e (omega arith)) (omega (arith, mul-le-mul h below))
product_fits PerHead scale e h k =
    let below : unsigned_abs e ≤ 2 ^ 99 - 1 = omega arith in
    rw (cast_kept w128 scale (omega arith), cast_kept w128 e (omega arith)) (omega (arith, mul-le-mul h below))

scale_fits : (measure : Measure) (scale : ℤ) → unsigned_abs scale ≤ scale_limit measure
    → to_z w128 (of_z w128 scale) ≡ scale
scale_fits Plain scale h = cast_kept w128 scale (omega arith)
scale_fits PerHead scale h = cast_kept w128 scale (omega arith)

-- the masks of a loop that has reached the grand coalition
masks_ended : (n top s : ℕ) → top ≡ 2 ^ n → 2 ≤ top → 1 ≤ s → s ≤ top - 1 → top - 1 ≤ s → s - 1 ≡ 2 ^ n - 2
masks_ended n top s same two low high end = omega arith

pub measured_excess-excess-requires : goal.measured_excess-excess-requires
measured_excess-excess-requires c = record {
  some = omega (arith, c.loop-coalition.auto.coalition);
  within = omega (arith, c.loop-coalition-test.true, c.coalitions-coalition-end.ensures.count);
  fits = c.requires.fits;
}

pub scaled-requires : goal.scaled-requires
scaled-requires c =
    product_fits c.args.measure c.args.scale c.measured_excess-excess.result c.requires.scale
    c.measured_excess-excess.ensures.small

pub loop-coalition-init : goal.loop-coalition-init
loop-coalition-init c = c.new-list.ensures.items

pub loop-coalition-preserved : goal.loop-coalition-preserved
loop-coalition-preserved c =
    let scale = to_z w128 (of_z w128 c.args.scale) in
    let e = measured_excess c.args.measure (game_of c.args.table.now) c.args.point.now in
    let s = c.loop-coalition.coalition in
    let excess_kept : to_z w128 (of_z w128 c.measured_excess-excess.result) ≡ c.measured_excess-excess.result =
    measured-fits c.args.measure c.measured_excess-excess.result c.measured_excess-excess.ensures.small in
    let scaled_kept : to_z w128 (of_z w128 c.scaled.result) ≡ c.scaled.result =
    cast_kept w128 c.scaled.result c.scaled.ensures.small in
    let last : to_z w128 (of_z w128 c.scaled.result) ≡ scale *ℤ e s =
    scaled_kept ∙ c.scaled.ensures.value
    ∙ ap (λ z. scale *ℤ z) (excess_kept ∙ c.measured_excess-excess.ensures.value) in
    let more = map-more (λ s. scale *ℤ e s) s (omega arith) in
    cc c.in_ok-push.ensures.items

pub returns : goal.returns
returns c =
    let e = measured_excess c.args.measure (game_of c.args.table.now) c.args.point.now in
    let top = c.coalitions-coalition-end.result in
    let s = c.loop-coalition.coalition in
    let laws = c.coalitions-coalition-end.ensures in
    let high : s ≤ top - 1 = omega (arith, c.loop-coalition.auto.coalition-end, laws.some) in
    let end =
    masks_ended c.args.table.now.players top s laws.count laws.some c.loop-coalition.auto.coalition high
    c.loop-coalition-test.false in
    let kept = scale_fits c.args.measure c.args.scale c.requires.scale in
    c.loop-coalition.invariant
    ∙ ap (λ (k : ℕ). map (λ s. to_z w128 (of_z w128 c.args.scale) *ℤ e s) (range_with_len 1 k)) end
    ∙ ap (λ (z : ℤ). map (λ s. z *ℤ e s) (range_with_len 1 (2 ^ c.args.table.now.players - 2))) kept
