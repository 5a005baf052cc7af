use Rattle.std.proofs.Common.{◌≡◌, ℕ, ◌+◌, ◌*◌, ◌%◌, ◌^◌, arith, rules, subst, ◌∙◌}
use Rattle.std.proofs.Common.{ℤ, pos, ◌<ℤ◌, ◌≤ℤ◌, slice_index_or, to_z, of_z, true, false}
use Rattle.std.proofs.lemmas.Int.{ints}
use lib.Signed.{lt_z}
use Rattle.definitions.proofs.Ring.{linear}
use mir.Syntax.{w64}
use Rattle.definitions.proofs.Casts.{cast_kept}
use Rattle.separation.specs.Scanned.{CoalitionImproves, gap_in}
use Rattle.separation.proofs.Picked.{highest_is_most}
use Rattle.separation.proofs.SmallBounds.{least_small}
use Rattle.separation.proofs.block_bounds.best_of_block_narrow.Goals as goal

pub loop-place-preserved : goal.loop-place-preserved
loop-place-preserved g c =
    let inv = c.loop-place.invariant in
    let next : 64 * c.loop-place.place + 64 ≡ 64 * (c.loop-place.place + 1) = omega arith in
    record {
      base = c.highest_of_word-best.ensures.base ∙ inv.base;
      highest =
          rw next at (c.highest_of_word-best.ensures.highest (256 * c.args.block) inv.highest);
    }

pub highest_of_word-best-requires-clause-least : goal.highest_of_word-best-requires-clause-least
highest_of_word-best-requires-clause-least g c =
    let q = c.loop-place.place % 4 in
    let is = c.args.sums.now.least_is q (omega arith) in
    let small = least_small _ q _ (2 ^ 60) (omega arith) is c.requires.low in
    rw (cast_kept w64 (slice_index_or c.args.sums.now.least q (pos 0)) (omega (arith, small))) is

-- what the machine compares
less_is : (a b : ℤ) → lt_z a b ≡ true → a <ℤ b
less_is a b e = grind (arith, ints)

not_less_is : (a b : ℤ) → lt_z a b ≡ false → b ≤ℤ a
not_less_is a b e = grind (arith, ints)

pub returns-then-best : goal.returns-then-best
returns-then-best g c =
    let scan = c.args.scan.now in
    let best = c.loop-place.best in
    let kept_base : to_z w64 (of_z w64 best.base) ≡ best.base = search rules in
    let kept_height : to_z w64 (of_z w64 best.height) ≡ best.height = search rules in
    let up : best.base <ℤ best.height =
    rw kept_height at
    (subst (λ (z : ℤ). z <ℤ to_z w64 (of_z w64 best.height)) kept_base (less_is _ _ c.if-best.true)) in
    let last = c.loop-place.auto.place-end (omega arith) in
    let end : 64 * c.loop-place.place ≡ 256 * (c.args.block + 1) = omega arith in
    highest_is_most (λ (j : ℕ). CoalitionImproves scan j) (gap_in scan) (256 * c.args.block) (256 * (c.args.block + 1))
    (2 ^ scan.program.now.players) best.base best.height best.coalition up
    (rw end at c.loop-place.invariant.highest)

pub returns-else-best : goal.returns-else-best
returns-else-best g c = λ j lower upper within.
    let best = c.loop-place.best in
    let kept_base : to_z w64 (of_z w64 best.base) ≡ best.base = search rules in
    let kept_height : to_z w64 (of_z w64 best.height) ≡ best.height = search rules in
    let down : best.height ≤ℤ best.base =
    rw kept_base at
    (subst (λ (z : ℤ). z ≤ℤ to_z w64 (of_z w64 best.base)) kept_height (not_less_is _ _ c.if-best.false)) in
    let h = c.loop-place.invariant.highest in
    let low = h.low in
    h.none (omega (arith, linear)) j lower (omega arith) within
