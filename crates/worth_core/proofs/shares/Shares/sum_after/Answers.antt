use Rattle.std.proofs.Common.{◌≡◌, ◌-◌, ◌^◌, ◌<◌, ℤ, ◌+ℤ◌, ◌-ℤ◌, unsigned_abs, FitsSigned, to_z}
use Rattle.std.proofs.Common.{of_z}
use Rattle.std.proofs.Common.{false, nat_eq, arith, rules, sym, ap, ◌∙◌}
use Rattle.std.proofs.lemmas.Bool.Decides.{nat_tests}
use Rattle.std.proofs.lemmas.Int.{ints, fits_signed_from_abs, to_z-of_z}
use mir.Syntax.{w128}
use Rattle.definitions.specs.Games.{amount}
use Rattle.definitions.proofs.Casts.{cast_kept}
use Rattle.worth_core.proofs.Amounts.{amount-small, walk_start, walk_within}
use Rattle.worth_core.proofs.Amounts.{walk_step, walk_end, walk_small}
use Rattle.worth_core.proofs.shares.Shares.sum_after.Goals as goal

-- ---- a sum and a difference in 128 bits

number_kept : (b : ℤ) → unsigned_abs b < 2 ^ 110 → to_z w128 (of_z w128 b) ≡ b
number_kept b h = cast_kept w128 b (omega arith)

sum_fits : (a b : ℤ) → unsigned_abs a < 2 ^ 117 → unsigned_abs b < 2 ^ 110
    → FitsSigned w128 (a +ℤ to_z w128 (of_z w128 b))
sum_fits a b h k = rw (number_kept b k) (fits_signed_from_abs w128 (a +ℤ b) (omega (arith, ints)))

difference_fits : (a b : ℤ) → unsigned_abs a < 2 ^ 117 → unsigned_abs b < 2 ^ 110
    → FitsSigned w128 (a -ℤ to_z w128 (of_z w128 b))
difference_fits a b h k = rw (number_kept b k) (fits_signed_from_abs w128 (a -ℤ b) (omega (arith, ints)))

sum_value : (a b z : ℤ) → unsigned_abs a < 2 ^ 117 → unsigned_abs b < 2 ^ 110 → b ≡ z
    → to_z w128 (of_z w128 (a +ℤ to_z w128 (of_z w128 b))) ≡ a +ℤ z
sum_value a b z h k e =
    to_z-of_z w128 (a +ℤ to_z w128 (of_z w128 b)) (sum_fits a b h k)
    ∙ ap (λ (y : ℤ). a +ℤ y) (number_kept b k ∙ e)

difference_value : (a b z : ℤ) → unsigned_abs a < 2 ^ 117 → unsigned_abs b < 2 ^ 110 → b ≡ z
    → to_z w128 (of_z w128 (a -ℤ to_z w128 (of_z w128 b))) ≡ a -ℤ z
difference_value a b z h k e =
    to_z-of_z w128 (a -ℤ to_z w128 (of_z w128 b)) (difference_fits a b h k)
    ∙ ap (λ (y : ℤ). a -ℤ y) (number_kept b k ∙ e)

-- ---- the answers

before_kept : (c : goal.Else-eq) → to_z w128 (of_z w128 c.args.before) ≡ amount c.args.self.now (c.args.s - 1)
before_kept c = to_z-of_z w128 c.args.before (search rules) ∙ c.requires.before

pub returns-then-eq-clause-small : goal.returns-then-eq-clause-small
returns-then-eq-clause-small c =
    let kept = to_z-of_z w128 c.args.before (search rules) in
    rw (kept ∙ c.requires.before) (amount-small c.args.self.now (c.args.s - 1) c.players.ensures.shares)

pub front-init : goal.front-init
front-init c =
    let test : nat_eq c.args.s 0 ≡ false = rw c.empty.ensures at (sym c.eq.ensures ∙ c.if-eq.false) in
    walk_start c.args.self.now c.args.s _ (grind (arith, nat_tests, test)) (before_kept c)

pub contains-requires : goal.contains-requires
contains-requires c =
    let lt = walk_within c.args.self.now _ c.args.s c.front.i _ c.requires.within c.front.invariant in
    let few = c.players.ensures.shares.few in
    omega arith

pub num-sum-requires : goal.num-sum-requires
num-sum-requires c = walk_within c.args.self.now _ c.args.s c.front.i _ c.requires.within c.front.invariant

pub overflow_sub-sum : goal.overflow_sub-sum
overflow_sub-sum c =
    let small = walk_small c.args.self.now c.args.s c.front.i _ c.players.ensures.shares c.front.invariant in
    difference_fits (to_z w128 c.front.sum-bits) c.num-sum.result small c.num-sum.ensures.small

pub overflow_add-i : goal.overflow_add-i
overflow_add-i c =
    let lt = walk_within c.args.self.now _ c.args.s c.front.i _ c.requires.within c.front.invariant in
    let few = c.players.ensures.shares.few in
    omega arith

pub front-smaller : goal.front-smaller
front-smaller c =
    let lt = walk_within c.args.self.now _ c.args.s c.front.i _ c.requires.within c.front.invariant in
    let few = c.players.ensures.shares.few in
    omega arith

pub front-preserved : goal.front-preserved
front-preserved c =
    let x = c.args.self.now in
    let lt = walk_within x _ c.args.s c.front.i _ c.requires.within c.front.invariant in
    let small = walk_small x c.args.s c.front.i _ c.players.ensures.shares c.front.invariant in
    let none = sym c.contains.ensures ∙ c.front-test.true in
    walk_step x c.args.s c.front.i (to_z w128 c.front.sum-bits) _ c.front.invariant lt none
    (difference_value (to_z w128 c.front.sum-bits) c.num-sum.result _ small c.num-sum.ensures.small
    c.num-sum.ensures.value)

pub num-requires : goal.num-requires
num-requires c = walk_within c.args.self.now _ c.args.s c.front.i _ c.requires.within c.front.invariant

pub overflow_add-result : goal.overflow_add-result
overflow_add-result c =
    let small = walk_small c.args.self.now c.args.s c.front.i _ c.players.ensures.shares c.front.invariant in
    sum_fits (to_z w128 c.front.sum-bits) c.num.result small c.num.ensures.small

pub returns-clause-value : goal.returns-clause-value
returns-clause-value c =
    let x = c.args.self.now in
    let lt = walk_within x _ c.args.s c.front.i _ c.requires.within c.front.invariant in
    let small = walk_small x c.args.s c.front.i _ c.players.ensures.shares c.front.invariant in
    let member = sym c.contains.ensures ∙ c.front-test.false in
    walk_end x c.args.s c.front.i (to_z w128 c.front.sum-bits) _ c.front.invariant lt member
    (sum_value (to_z w128 c.front.sum-bits) c.num.result _ small c.num.ensures.small c.num.ensures.value)

pub returns-clause-small : goal.returns-clause-small
returns-clause-small c =
    let x = c.args.self.now in
    let lt = walk_within x _ c.args.s c.front.i _ c.requires.within c.front.invariant in
    let small = walk_small x c.args.s c.front.i _ c.players.ensures.shares c.front.invariant in
    let member = sym c.contains.ensures ∙ c.front-test.false in
    let value = walk_end x c.args.s c.front.i (to_z w128 c.front.sum-bits) _ c.front.invariant lt member
    (sum_value (to_z w128 c.front.sum-bits) c.num.result _ small c.num.ensures.small c.num.ensures.value) in
    rw value (amount-small x c.args.s c.players.ensures.shares)
