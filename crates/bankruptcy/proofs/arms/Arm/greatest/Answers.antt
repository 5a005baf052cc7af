use Rattle.std.proofs.Common.{◌∙◌, ◌≡◌, ℕ, ◌+◌, ◌*◌, ◌^◌, ◌<◌, ◌≤◌, true, false}
use Rattle.std.proofs.Common.{length, ℤ, pos, ◌+ℤ◌}
use Rattle.std.proofs.Common.{◌<ℤ◌, ◌≤ℤ◌, unsigned_abs, to_z, of_z, sym, ap, arith}
use Rattle.std.proofs.lemmas.Int.{ints}
use Rattle.bankruptcy.specs.Arms.{arm_at, arm_base, arm_number}
use Rattle.bankruptcy.proofs.LeastGreatest.{mask_with, linear-empty, IsLeastGreatest-start}
use Rattle.bankruptcy.proofs.LeastGreatest.{IsLeastGreatest-joins, IsLeastGreatest-stays}
use lib.Signed.{lt_z}
use mir.Syntax.{w128}
use Rattle.bankruptcy.proofs.arms.Arm.greatest.Goals as goal
use Rattle.bankruptcy.proofs.arms.Arm.greatest.Goals.{then-number-gt0, else-number-gt0}
use Rattle.definitions.proofs.Casts.{cast_kept}

pub loop-i-init : goal.loop-i-init
loop-i-init c =
    let b = c.args.game.now in
    let x = c.args.x.now in
    let kept = cast_kept w128 c.base-excess.result (omega (arith, c.base-excess.ensures.small)) in
    let none = linear-empty (arm_base c.args.self.factor b) (length b.claims) (arm_number c.args.self.factor b x) in
    rw kept (
      IsLeastGreatest-start (arm_at c.args.self.factor b x) c.empty-coalition.result c.base-excess.result
          c.empty-coalition.ensures (c.base-excess.ensures.value ∙ sym none),
      omega (arith, c.base-excess.ensures.small),
    )

-- ---- one number more, in 128 bits

sum_kept : (m k : ℤ) (i : ℕ) → i < 64 → unsigned_abs m ≤ 2 ^ 110 + i * 2 ^ 111 → unsigned_abs k < 2 ^ 111
    → to_z w128 (of_z w128 (m +ℤ to_z w128 (of_z w128 k))) ≡ m +ℤ k
sum_kept m k i lt small number =
    rw (cast_kept w128 k (omega arith)) (cast_kept w128 (m +ℤ k) (omega (arith, ints)))

sum_small : (m k : ℤ) (i : ℕ) → unsigned_abs m ≤ 2 ^ 110 + i * 2 ^ 111 → unsigned_abs k < 2 ^ 111
    → unsigned_abs (m +ℤ k) ≤ 2 ^ 110 + (i + 1) * 2 ^ 111
sum_small m k i small number = omega (arith, ints)

still_small : (m : ℤ) (i : ℕ) → unsigned_abs m ≤ 2 ^ 110 + i * 2 ^ 111
    → unsigned_abs m ≤ 2 ^ 110 + (i + 1) * 2 ^ 111
still_small m i small = omega arith

is_positive : (k : ℤ) → lt_z (pos 0) k ≡ true → pos 0 <ℤ k
is_positive k h = omega (arith, ints)

isnt_positive : (k : ℤ) → lt_z (pos 0) k ≡ false → k ≤ℤ pos 0
isnt_positive k h = omega (arith, ints)

pub loop-i-preserved : goal.loop-i-preserved
loop-i-preserved c =
    let b = c.args.game.now in
    let x = c.args.x.now in
    let i = c.loop-i.i in
    let m = to_z w128 c.loop-i.excess-bits in
    let number = c.number-number.result in
    let h = c.loop-i.invariant.0 in
    let small = c.loop-i.invariant.1 in
    let less = c.number-number.ensures.small in
    let value = c.number-number.ensures.value in
    let few = c.players-i-end.ensures.laws.few in
    let lt : i < length b.claims = omega (arith, c.players-i-end.ensures.count, c.loop-i-test.true) in
    let kept = cast_kept w128 number (omega (arith, less)) in
    let base = arm_base c.args.self.factor b in
    let a = arm_number c.args.self.factor b x in
    elim c.if-number-gt0.branch [
      | then-number-gt0 w ↦
          let sum = w.excess-is ∙ sum_kept m number i (omega arith) small less in
          let positive = is_positive number (rw kept at w.if-number-gt0.true) in
          let mask =
          w.coalition-is
          ∙ mask_with w.with-coalition.result c.loop-i.coalition i h.within w.with-coalition.ensures in
          rw sum (
            IsLeastGreatest-joins base (length b.claims) a i c.loop-i.coalition c.if-number-gt0.coalition m
                (m +ℤ number) lt h (rw (sym value) positive) mask (ap (λ (z : ℤ). m +ℤ z) value),
            sum_small m number i small less,
          )
      | else-number-gt0 w ↦
          let low = isnt_positive number (rw kept at w.if-number-gt0.false) in
          rw (w.excess-is, w.coalition-is) (
            IsLeastGreatest-stays base (length b.claims) a i c.loop-i.coalition m lt h (rw (sym value) low),
            still_small m i small,
          )
    ]
