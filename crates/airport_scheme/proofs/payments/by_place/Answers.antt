use Rattle.std.proofs.Common.{◌+◌, ◌-◌, ◌^◌, ◌<◌, length, unsigned_abs, ℤ, pos, ◌+ℤ◌, ◌≤ℤ◌}
use Rattle.std.proofs.Common.{◌<ℤ◌, arith}
use Rattle.std.proofs.lemmas.Int.{ints, fits_signed_from_abs, to_z_pos}
use mir.Syntax.{w128}
use Rattle.airport_scheme.specs.Scheme.{cost_at}
use Rattle.airport_scheme.proofs.Places.{cost_at-small}
use Rattle.airport_scheme.proofs.Runs.{IsRun-start, IsRun-next, run_small, paid_low, paid_small, IsPayment-whole}
use Rattle.airport_scheme.proofs.payments.by_place.Goals as goal
use Rattle.definitions.proofs.Casts.{cast_kept}

small_from : (z : ℤ) → pos 0 ≤ℤ z → z <ℤ pos (2 ^ 104) → unsigned_abs z < 2 ^ 104
small_from z low high = omega (arith, ints)

sum_small : (u v : ℤ) → unsigned_abs u < 2 ^ 119 → unsigned_abs v < 2 ^ 119 → unsigned_abs (u +ℤ v) < 2 ^ 127
sum_small u v h k = omega (arith, ints)

pub loop-done-init : goal.loop-done-init
loop-done-init c = rw c.new-pay.ensures.items
    (IsRun-start (length c.args.game.now.costs) (cost_at c.args.game.now) c.len-n.ensures.laws.some)

pub next-block-requires-clause-paid : goal.next-block-requires-clause-paid
next-block-requires-clause-paid c =
    let run = c.loop-done.invariant in
    small_from _ (paid_low _ _ _ _ _ _ run)
    (paid_small _ _ _ _ _ _ (cost_at-small c.args.game.now c.len-n.ensures.laws)
    (omega arith) run)

pub grow-requires-clause-small : goal.grow-requires-clause-small
grow-requires-clause-small c = run_small _ _ _ _ _ _ c.loop-done.invariant

pub times-requires-clause-left : goal.times-requires-clause-left
times-requires-clause-left c =
    let run = c.loop-done.invariant in
    let small =
    small_from _ (paid_low _ _ _ _ _ _ run)
    (paid_small _ _ _ _ _ _ (cost_at-small c.args.game.now c.len-n.ensures.laws)
    (omega arith) run) in
    omega arith

pub overflow_add-paid : goal.overflow_add-paid
overflow_add-paid c =
    let first = cast_kept w128 c.times.result (omega arith) in
    let second = cast_kept w128 c.times-in-loop-done.result (omega arith) in
    rw (first, second)
    (fits_signed_from_abs w128 _
    (sum_small c.times.result c.times-in-loop-done.result c.times.ensures.small
    c.times-in-loop-done.ensures.small))

pub loop-done-preserved : goal.loop-done-preserved
loop-done-preserved c =
    let run = c.loop-done.invariant in
    let block = c.next-block.result in
    let least = c.next-block.ensures.least in
    let size = cast_kept w128 block.size (omega arith) in
    let value = cast_kept w128 block.value (omega arith) in
    let count =
    to_z_pos w128 (block.last + 1 - c.loop-done.done) (omega arith) in
    let first = cast_kept w128 c.times.result (omega arith) in
    let second = cast_kept w128 c.times-in-loop-done.result (omega arith) in
    let third = cast_kept w128 c.times-den.result (omega arith) in
    let sum =
    cast_kept w128 (c.times.result +ℤ c.times-in-loop-done.result)
    (sum_small c.times.result c.times-in-loop-done.result c.times.ensures.small
    c.times-in-loop-done.ensures.small) in
    let e = rw size at c.times.ensures.value in
    let f = rw (value, count) at c.times-in-loop-done.ensures.value in
    let g = rw size at c.times-den.ensures.value in
    let grown = rw (size, value) at (c.in_ok-grow.ensures {u = tt}) in
    rw (first, second, third, sum, e, f, g)
    (IsRun-next _ _ _ _ _ _ c.loop-done.done block.last block.size block.value c.len-n.ensures.laws.few
    (cost_at-small c.args.game.now c.len-n.ensures.laws)
    (omega arith) run least grown)

pub returns-clause-payment : goal.returns-clause-payment
returns-clause-payment c =
    IsPayment-whole _ _ _ _ _ c.loop-done.done (omega arith)
    c.loop-done.invariant
