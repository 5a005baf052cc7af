use Rattle.std.proofs.Common.{arith, ◌≡◌, ◌/◌, ◌%◌, ◌∙◌, inl, inr}
use Rattle.fractions.proofs.Orders.{less_is, greater_is, whole_less, rests_order, next_order, zero_left, zero_right}
use Rattle.fractions.proofs.order.order_of_sizes.Goals as goal

pub returns-then-whole-other : goal.returns-then-whole-other
returns-then-whole-other c =
    less_is _ _
    (whole_less c.loop-a.a c.loop-a.b c.loop-a.c c.loop-a.d c.loop-a.invariant.b_positive
    c.loop-a.invariant.d_positive c.if-whole-other.true) ∙ c.loop-a.invariant.same

pub returns-then-other-whole : goal.returns-then-other-whole
returns-then-other-whole c =
    greater_is _ _
    (whole_less c.loop-a.c c.loop-a.d c.loop-a.a c.loop-a.b c.loop-a.invariant.d_positive
    c.loop-a.invariant.b_positive c.if-other-whole.true) ∙ c.loop-a.invariant.same

pub returns-then-rest-eq0 : goal.returns-then-rest-eq0
returns-then-rest-eq0 c =
    let e : c.loop-a.a / c.loop-a.b ≡ c.loop-a.c / c.loop-a.d = omega arith in
    let order = rests_order c.loop-a.a c.loop-a.b c.loop-a.c c.loop-a.d e ∙ c.loop-a.invariant.same in
    elim c.then-rest-eq0.either [
      | inl z ↦ c.cmp.ensures
          ∙ zero_left _ (c.loop-a.c % c.loop-a.d) c.loop-a.b c.loop-a.d c.loop-a.invariant.b_positive z ∙ order
      | inr z ↦ c.cmp.ensures
          ∙ zero_right (c.loop-a.a % c.loop-a.b) _ c.loop-a.b c.loop-a.d c.loop-a.invariant.d_positive z.1 ∙ order
    ]

pub loop-a-preserved : goal.loop-a-preserved
loop-a-preserved c =
    let e : c.loop-a.a / c.loop-a.b ≡ c.loop-a.c / c.loop-a.d = omega arith in
    record {
      b_positive = omega arith;
      d_positive = omega arith;
      same = next_order c.loop-a.a c.loop-a.b c.loop-a.c c.loop-a.d e ∙ c.loop-a.invariant.same;
    }
