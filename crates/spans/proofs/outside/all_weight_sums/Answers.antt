use Rattle.std.proofs.Common.{◌≡◌, ◌≤◌, ◌^◌, ℕ, arith, refl, subst, ◌∙◌}
use Rattle.spans.specs.Sums.{number_at}
use Rattle.spans.proofs.EightSums.{AreAddedRows, no_row_added, row_added, row_passed, two_sums-is}
use Rattle.spans.proofs.outside.all_weight_sums.Goals as goal
use Rattle.spans.proofs.outside.all_weight_sums.Goals.{then-not-fixed-k, else-not-fixed-k}

pub loop-k-init : goal.loop-k-init
loop-k-init c = no_row_added c.args.n c.args.fixed.now c.args.entries.now

pub add_row-requires-clause-numbers : goal.add_row-requires-clause-numbers
add_row-requires-clause-numbers c = λ i.
    let small = c.loop-k.invariant.small i in
    let few = c.requires.few in
    omega (arith, small, few, c.loop-k-test.true)

pub loop-k-preserved : goal.loop-k-preserved
loop-k-preserved c =
    let n = c.args.n in
    let k = c.loop-k.k in
    let fixed = c.args.fixed.now in
    let entries = c.args.entries.now in
    let lt = c.loop-k-test.true in
    elim c.if-not-fixed-k.branch [
      | then-not-fixed-k w ↦ rw w.numbers-is
          (row_added n fixed entries k c.loop-k.numbers w.add_row.new.numbers w.if-not-fixed-k.true
          (λ i less. c.requires.small k i lt less) w.add_row.ensures.sum w.add_row.ensures.rest c.loop-k.invariant)
      | else-not-fixed-k w ↦ rw w.numbers-is (row_passed n fixed entries k c.loop-k.numbers c.loop-k.invariant)
    ]

pub returns-clause-none : goal.returns-clause-none
returns-clause-none c =
    let e : c.loop-k.k ≡ c.args.n = omega arith in
    let rows =
    subst (λ (k : ℕ). AreAddedRows c.args.n c.args.fixed.now c.args.entries.now k c.loop-k.numbers) e
    c.loop-k.invariant in
    λ s lt h.
    two_sums-is c.loop-k.numbers c.of.result.low c.of.result.high c.args.n s (number_at c.loop-k.numbers)
    c.requires.few c.of.ensures (λ i less. refl) rows.past lt ∙ rows.none s h

pub returns-clause-small : goal.returns-clause-small
returns-clause-small c = λ a lt.
    (c.of.ensures.high_is a lt).small (2 ^ 58)
    (λ i. let small = c.loop-k.invariant.small i in
    let few = c.requires.few in
    let end : c.loop-k.k ≤ c.args.n = omega arith in
    omega (arith, small, few, end))
