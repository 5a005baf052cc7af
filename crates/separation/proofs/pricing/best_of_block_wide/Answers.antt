use Rattle.std.proofs.Common.{◌≡◌, ◌≤◌, ◌<◌, ◌+◌, ◌*◌, ◌%◌, ◌^◌, ℕ, ℤ, pos}
use Rattle.std.proofs.Common.{◌+ℤ◌, slice_index_or, unsigned_abs, to_z, of_z, ap, ◌∙◌, sym, arith, rules}
use mir.Syntax.{w128}
use Rattle.std.proofs.lemmas.Bool.{false≢true}
use Rattle.definitions.proofs.Casts.{cast_kept}
use Rattle.separation.specs.Values.{low_of}
use Rattle.separation.specs.Scanned.{CoalitionImproves, gap_in}
use Rattle.separation.proofs.Balance.{masks_of}
use Rattle.separation.proofs.Picked.{IsPicked, picked_more, passed_over}
use Rattle.separation.proofs.pricing.best_of_block_wide.Goals.{then-marked_improves, else-marked_improves}
use Rattle.separation.proofs.pricing.best_of_block_wide.Goals as goal

pub marked_improves-requires-clause-value : goal.marked_improves-requires-clause-value
marked_improves-requires-clause-value g c =
    let sums = c.args.scan.now.sums in
    let s = c.loop-mask.mask in
    let base = c.base-base.result in
    let small : unsigned_abs base ≤ 2 ^ 114 = c.base-base.ensures.small in
    let kept : to_z w128 (of_z w128 base) ≡ base = cast_kept w128 base (omega (arith, small)) in
    let valued =
    c.behind-value.ensures.value ∙ ap (λ (z : ℤ). z +ℤ slice_index_or (low_of sums) (s % 256) (pos 0)) kept in
    let upper : s < 256 * c.args.block + 256 = omega arith in
    let whole : to_z w128 (of_z w128 c.behind-value.result) ≡ c.behind-value.result = search rules in
    whole ∙ valued ∙ c.base-base.ensures.values s c.loop-mask.auto.mask upper

pub loop-mask-preserved : goal.loop-mask-preserved
loop-mask-preserved g c =
    let scan = c.args.scan.now in
    let p = scan.program.now in
    let s = c.loop-mask.mask in
    let from = 256 * c.args.block in
    let mask = masks_of p.players scan.are_sums.few in
    let within : s < 2 ^ p.players = omega arith in
    let base = c.base-base.result in
    let small : unsigned_abs base ≤ 2 ^ 114 = c.base-base.ensures.small in
    let kept : to_z w128 (of_z w128 base) ≡ base = cast_kept w128 base (omega (arith, small)) in
    let upper : s < 256 * c.args.block + 256 = omega arith in
    let whole : to_z w128 (of_z w128 c.behind-value.result) ≡ c.behind-value.result = search rules in
    let valued =
    whole ∙ c.behind-value.ensures.value
    ∙ ap (λ (z : ℤ). z +ℤ slice_index_or (low_of scan.sums) (s % 256) (pos 0)) kept
    ∙ c.base-base.ensures.values s c.loop-mask.auto.mask upper in
    let R = λ (t : ℕ). CoalitionImproves scan t in
    let picked = λ (t : ℕ). IsPicked R (gap_in scan) from t (2 ^ p.players) in
    elim c.if-marked_improves.branch [
      | then-marked_improves w ↦ rw w.best-is
          (let gap = w.gap-here.result in
          let kept : to_z w128 (of_z w128 gap) ≡ gap = search rules in
          picked_more R (gap_in scan) from s (2 ^ p.players) c.loop-mask.best w.greater.result
          (to_z w128 (of_z w128 gap)) within (c.marked_improves.ensures.0 w.if-marked_improves.true)
          (cc (w.gap-here.ensures))
          w.greater.ensures c.loop-mask.invariant)
      | else-marked_improves w ↦ rw w.best-is
          (passed_over R (gap_in scan) from s (2 ^ p.players) c.loop-mask.best
          (λ r. false≢true (sym w.if-marked_improves.false ∙ c.marked_improves.ensures.1 r)) c.loop-mask.invariant)
    ]
