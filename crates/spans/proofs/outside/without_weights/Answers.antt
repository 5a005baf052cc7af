use Rattle.std.proofs.Common.{arith, ◌≡◌}
use Rattle.spans.specs.Outside.{is_marked}
use Rattle.spans.proofs.Marks.{sifted_first, sifted_more, sifted_fixed, sifted_all}
use Rattle.spans.proofs.outside.without_weights.Goals as goal
use Rattle.spans.proofs.outside.without_weights.Goals.{then-not-fixed-k, else-not-fixed-k}

pub loop-k-init : goal.loop-k-init
loop-k-init c = λ s lt.
    sifted_first c.args.n c.args.fixed.now c.args.entries.now s (is_marked c.args.words s) _ _
    (c.keep_silent.ensures s lt) (c.all_weight_sums.ensures.none s lt)

pub loop-k-preserved : goal.loop-k-preserved
loop-k-preserved c =
    let n = c.args.n in
    let k = c.loop-k.k in
    let fixed = c.args.fixed.now in
    let entries = c.args.entries.now in
    elim c.if-not-fixed-k.branch [
      | then-not-fixed-k w ↦ rw w.held-is
          (λ s lt. sifted_more n fixed entries k s (is_marked c.args.words s) (is_marked c.loop-k.held s) _ _
          c.loop-k-test.true (c.loop-k.invariant s lt) (w.keep_silent-then-not-fixed-k.ensures s lt)
          (w.weight_sums.ensures.value s lt) w.if-not-fixed-k.true)
      | else-not-fixed-k w ↦ rw w.held-is
          (λ s lt. sifted_fixed n fixed entries k s (is_marked c.args.words s) (is_marked c.loop-k.held s)
          (c.loop-k.invariant s lt) w.if-not-fixed-k.false)
    ]

pub returns : goal.returns
returns c =
    let e : c.loop-k.k ≡ c.args.n = omega arith in
    λ s lt. sifted_all c.args.n c.args.fixed.now c.args.entries.now c.loop-k.k s (is_marked c.args.words s)
    (is_marked c.loop-k.held s) e (c.loop-k.invariant s lt)
