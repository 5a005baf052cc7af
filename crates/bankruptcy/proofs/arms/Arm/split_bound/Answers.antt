use Rattle.std.proofs.Common.{◌≡◌, ℕ, ◌^◌, ◌<◌, ◌≤◌, length, ℤ, ◌+ℤ◌, Option, Some}
use Rattle.std.proofs.Common.{IfSome}
use Rattle.std.proofs.Common.{unsigned_abs, to_z, of_z, subst, refl, sym, ◌∙◌, arith}
use Rattle.std.proofs.lemmas.Int.{ints, fits_signed_from_abs}
use Rattle.definitions.specs.Coalitions.{grand_coalition}
use Rattle.worth_core.specs.SplitKinds.{Sums, AreSplitSums}
use Rattle.bankruptcy.specs.Arms.{arm_base, arm_number}
use Rattle.bankruptcy.proofs.Splits.{grand_coalition-more, grand_coalition-lacks, some_sum, IsSplitGreatest-sum}
use mir.Syntax.{w128}
use Rattle.bankruptcy.proofs.arms.Arm.split_bound.Goals as goal
use Rattle.definitions.proofs.Casts.{cast_kept}

pub loop-i-preserved : goal.loop-i-preserved
loop-i-preserved c =
    let b = c.args.game.now in
    let a = arm_number c.args.self.factor b c.args.x.now in
    let n = length b.claims in
    let i = c.loop-i.i in
    let lt : i < n = omega (arith, c.players-i-end.ensures.count, c.loop-i-test.true) in
    let kept = cast_kept w128 c.number.result (omega (arith, c.number.ensures.small)) in
    let more =
    c.add.ensures.sums n a c.args.free (grand_coalition i) i lt (grand_coalition-lacks i)
    (sym c.contains.ensures) (sym c.number.ensures.value ∙ sym kept) c.loop-i.invariant.0 in (
      subst (λ (seen : ℕ). AreSplitSums n a c.args.free seen c.add.new.self) (grand_coalition-more i) more,
      omega (arith, c.add.ensures.count, c.loop-i.invariant.1),
    )

-- where all players are seen
all_seen : (n i : ℕ) (a : ℕ → ℤ) (f : ℕ) (sums : Sums) → i ≡ n → AreSplitSums n a f (grand_coalition i) sums
    → AreSplitSums n a f (grand_coalition n) sums
all_seen n i a f sums e h = subst (λ (k : ℕ). AreSplitSums n a f (grand_coalition k) sums) e h

pub unwrap-requires : goal.unwrap-requires
unwrap-requires c =
    let b = c.args.game.now in
    let a = arm_number c.args.self.factor b c.args.x.now in
    let n = length b.claims in
    let end : c.loop-i.i ≡ n =
    omega (arith, c.players-i-end.ensures.count, c.loop-i-test.false, c.loop-i.auto.i-end) in
    some_sum n a c.args.free c.best.result c.requires.two
    (c.best.ensures.sum n a c.args.free (grand_coalition n)
    (all_seen n c.loop-i.i a c.args.free c.loop-i.sums end c.loop-i.invariant.0))

-- the base and a sum in 128 bits
sum_small : (m k : ℤ) (best : Option ℤ) → unsigned_abs m < 2 ^ 110 → IfSome best (λ z. unsigned_abs z ≤ 2 ^ 118)
    → best ≡ Some k → unsigned_abs (m +ℤ k) < 2 ^ 119
sum_small m k best small less some =
    let le : unsigned_abs k ≤ 2 ^ 118 = rw some at less in
    omega (arith, ints)

sum_kept : (m k : ℤ) (best : Option ℤ) → unsigned_abs m < 2 ^ 110 → IfSome best (λ z. unsigned_abs z ≤ 2 ^ 118)
    → best ≡ Some k → to_z w128 (of_z w128 m) +ℤ to_z w128 (of_z w128 k) ≡ m +ℤ k
sum_kept m k best small less some =
    let le : unsigned_abs k ≤ 2 ^ 118 = rw some at less in
    rw (cast_kept w128 m (omega arith), cast_kept w128 k (omega arith)) refl

pub overflow_add-result : goal.overflow_add-result
overflow_add-result c =
    let fits =
    sum_small c.base.result c.unwrap.result c.best.result c.base.ensures.small c.best.ensures.small
    c.unwrap.ensures in
    rw
    (sum_kept c.base.result c.unwrap.result c.best.result c.base.ensures.small c.best.ensures.small
    c.unwrap.ensures) (fits_signed_from_abs w128 _ (omega arith))

pub returns : goal.returns
returns c =
    let b = c.args.game.now in
    let a = arm_number c.args.self.factor b c.args.x.now in
    let n = length b.claims in
    let end : c.loop-i.i ≡ n =
    omega (arith, c.players-i-end.ensures.count, c.loop-i-test.false, c.loop-i.auto.i-end) in
    let best =
    c.best.ensures.sum n a c.args.free (grand_coalition n)
    (all_seen n c.loop-i.i a c.args.free c.loop-i.sums end c.loop-i.invariant.0) in
    let fits =
    sum_small c.base.result c.unwrap.result c.best.result c.base.ensures.small c.best.ensures.small
    c.unwrap.ensures in
    let kept =
    sum_kept c.base.result c.unwrap.result c.best.result c.base.ensures.small c.best.ensures.small
    c.unwrap.ensures in
    let whole = cast_kept w128 (c.base.result +ℤ c.unwrap.result) (omega arith) in
    rw (kept, whole)
    (IsSplitGreatest-sum (arm_base c.args.self.factor b) n a c.args.free c.unwrap.result
    (c.base.result +ℤ c.unwrap.result) (rw c.unwrap.ensures at best) (rw c.base.ensures.value refl))
