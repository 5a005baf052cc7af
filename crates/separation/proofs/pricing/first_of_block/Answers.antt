use Rattle.std.proofs.Common.{◌≡◌, ◌≤◌, ◌<◌, ◌+◌, ◌*◌, ◌%◌, ◌^◌, ℤ, pos, ◌+ℤ◌}
use Rattle.std.proofs.Common.{slice_index_or, unsigned_abs, to_z, of_z, ap, ◌∙◌, arith, rules, refl}
use mir.Syntax.{w128}
use Rattle.std.proofs.lemmas.Bool.{false≢true}
use Rattle.definitions.proofs.Casts.{cast_kept}
use Rattle.separation.specs.Values.{low_of}
use Rattle.separation.proofs.Balance.{masks_of}
use Rattle.separation.proofs.Searches
use Rattle.separation.proofs.pricing.first_of_block.Goals as goal

pub overflow_shl-scan : goal.overflow_shl-scan
overflow_shl-scan g c = Searches.below_64 c.args.scan.now.program.now.players c.args.scan.now.are_sums.few

pub loop-mask-init : goal.loop-mask-init
loop-mask-init g c = c.requires.before

pub marked_improves-requires-clause-within : goal.marked_improves-requires-clause-within
marked_improves-requires-clause-within g c =
    let mask = masks_of c.args.scan.now.program.now.players c.args.scan.now.are_sums.few in
    omega arith

pub returns-then-marked_improves : goal.returns-then-marked_improves
returns-then-marked_improves g c =
    let scan = c.args.scan.now in
    let mask = masks_of scan.program.now.players scan.are_sums.few in
    Searches.first_here scan c.loop-mask.mask c.loop-mask.invariant (omega arith) (c.if-marked_improves.ensures.0 refl)

pub loop-mask-preserved : goal.loop-mask-preserved
loop-mask-preserved g c =
    Searches.none_more c.args.scan.now c.loop-mask.mask c.loop-mask.invariant
    (λ r. false≢true (c.if-marked_improves.ensures.1 r))

pub returns : goal.returns
returns g c =
    let mask = masks_of c.args.scan.now.program.now.players c.args.scan.now.are_sums.few in
    λ j lt within. c.loop-mask.invariant j (omega arith)
    within

pub marked_improves-requires-clause-value : goal.marked_improves-requires-clause-value
marked_improves-requires-clause-value g c =
    let sums = c.args.scan.now.sums in
    let s = c.loop-mask.mask in
    let base = c.base-base.result in
    let small : unsigned_abs base ≤ 2 ^ 114 = c.base-base.ensures.small in
    let kept : to_z w128 (of_z w128 base) ≡ base = cast_kept w128 base (omega (arith, small)) in
    let valued =
    c.behind-value.ensures.value ∙ ap (λ (z : ℤ). z +ℤ slice_index_or (low_of sums) (s % 256) (pos 0)) kept in
    let upper : s < 256 * c.args.block + 256 = omega arith in
    let whole : to_z w128 (of_z w128 c.behind-value.result) ≡ c.behind-value.result = search rules in
    whole ∙ valued ∙ c.base-base.ensures.values s c.loop-mask.auto.mask upper
