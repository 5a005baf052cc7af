use Rattle.std.proofs.Common.{◌≡◌, ◌≢◌, ◌+◌, ◌*◌, ◌<◌, length, ℤ, pos, to_z, of_z}
use Rattle.std.proofs.Common.{sym, ap, ◌∙◌, arith}
use Rattle.std.proofs.lemmas.Int.{ints}
use mir.Syntax.{w128}
use Rattle.nested_programs.specs.Numbers.{net}
use Rattle.nested_programs.proofs.LevelPasses.{level_put, level_skip}
use Rattle.nested_programs.proofs.level.put_level.Goals as goal
use Rattle.nested_programs.proofs.level.put_level.Goals.{then-number-ne0+in_ok-put_pair, else-number-ne0}
use Rattle.definitions.proofs.Casts.{cast_kept}

zero_kept : (z : ℤ) → to_z w128 (of_z w128 z) ≡ z → of_z w128 z ≡ 0 → to_z w128 (of_z w128 z) ≡ pos 0
zero_kept z same e = ap (to_z w128) e

apart_kept : (z : ℤ) → to_z w128 (of_z w128 z) ≡ z → (of_z w128 z ≡ 0 → ⊥) → to_z w128 (of_z w128 z) ≢ pos 0
apart_kept z same ne e = ne (ap (of_z w128) (sym same ∙ e))

pub loop-k-preserved : goal.loop-k-preserved
loop-k-preserved c =
    let ws = c.args.weights.now in
    let first = c.args.first in
    let pairs = c.args.pairs.now in
    let k = c.loop-k.k in
    let lt : k < length pairs = omega (arith, c.loop-k-test.true) in
    let same : to_z w128 (of_z w128 c.net_of-number.result) ≡ c.net_of-number.result =
    cast_kept w128 c.net_of-number.result (omega (arith, ints, c.net_of-number.ensures.small)) in
    let is : to_z w128 (of_z w128 c.net_of-number.result) ≡ net ws (first + 2 * k) (first + 2 * k + 1) =
    same ∙ c.net_of-number.ensures.value in
    elim c.if-number-ne0.branch [
      | then-number-ne0+in_ok-put_pair w ↦
          rw w.earlier-is (rw w.in_ok-put_pair.ensures
          (level_put ws _ c.loop-k.earlier.items first pairs k w.index-pairs-k.result _ lt is
          (apart_kept _ same w.if-number-ne0.true) c.loop-k.invariant))
      | else-number-ne0 w ↦
          rw w.earlier-is (level_skip ws _ c.loop-k.earlier.items first pairs k (0, pos 0) _ lt is
          (zero_kept _ same w.if-number-ne0.false) c.loop-k.invariant)
    ]
