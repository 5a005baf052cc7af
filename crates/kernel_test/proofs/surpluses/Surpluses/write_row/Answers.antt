use Rattle.std.proofs.Common.{◌≡◌, ◌∙◌, ◌+◌, ◌*◌, length, not, ap, to_z, of_z, slice_set}
use Rattle.std.proofs.Common.{rules, arith}
use mir.Syntax.{w128}
use Rattle.kernel_test.specs.Tables.{number_at, raised_where}
use Rattle.kernel_test.proofs.Rows.{raised-column, written-elsewhere}
use Rattle.kernel_test.proofs.Floors.{floor_more}
use Rattle.kernel_test.proofs.surpluses.Surpluses.write_row.Goals as goal

pub loop-j-preserved : goal.loop-j-preserved
loop-j-preserved c =
    let table = c.loop-j.self.greatest in
    let i = c.args.i in
    let j = c.loop-j.j in
    let v = c.raised_where.result in
    let e = to_z w128 (of_z w128 c.args.excess) in
    let full : length table ≡ 256 = search rules in
    let raised =
    c.raised_where.ensures ∙ ap (λ b. raised_where (not b) (number_at table i j) e) c.contains.ensures in
    record {
      row = λ a k ha hk. raised-column table c.args.s i j a k (number_at c.args.self.now.greatest a k) v e
          c.requires.player c.loop-j-test.true hk full (c.loop-j.invariant.row a k ha hk) raised;
      floor =
          floor_more table (slice_set table (16 * i + j) v) i j c.loop-j.least c.lesser_where-least.result
          c.loop-j.invariant.floor
          (λ k lt. written-elsewhere table i j i k v c.loop-j-test.true (omega (arith, c.loop-j-test.true))
          (λ _ same. omega arith)) c.lesser_where-least.ensures;
      kept = c.loop-j.invariant.kept;
    }

pub overflow_mul-place : goal.overflow_mul-place
overflow_mul-place c = omega (arith, c.requires.player, c.loop-j-test.true)

pub overflow_add-place : goal.overflow_add-place
overflow_add-place c = omega (arith, c.requires.player, c.loop-j-test.true)

pub overflow_cast-place : goal.overflow_cast-place
overflow_cast-place c = omega (arith, c.requires.player, c.loop-j-test.true)

pub offset_bounds-self-place : goal.offset_bounds-self-place
offset_bounds-self-place c = omega (arith, c.requires.player, c.loop-j-test.true)

pub bounds-self-place : goal.bounds-self-place
bounds-self-place c = omega (arith, c.requires.player, c.loop-j-test.true)

pub offset_bounds-self-place-in-loop-j : goal.offset_bounds-self-place-in-loop-j
offset_bounds-self-place-in-loop-j c = omega (arith, c.requires.player, c.loop-j-test.true)

pub bounds-self-place-in-loop-j : goal.bounds-self-place-in-loop-j
bounds-self-place-in-loop-j c = omega (arith, c.requires.player, c.loop-j-test.true)

pub offset_bounds-self-place-in-loop-j-2 : goal.offset_bounds-self-place-in-loop-j-2
offset_bounds-self-place-in-loop-j-2 c = omega (arith, c.requires.player, c.loop-j-test.true)

pub bounds-self-place-in-loop-j-2 : goal.bounds-self-place-in-loop-j-2
bounds-self-place-in-loop-j-2 c = omega (arith, c.requires.player, c.loop-j-test.true)

pub offset_bounds-self-i : goal.offset_bounds-self-i
offset_bounds-self-i c = omega (arith, c.requires.player)
