use Rattle.std.proofs.Common.{refl, arith, ◌%◌}
use Rattle.spans.proofs.Blocks.{silent_block, empty_block}
use Rattle.spans.proofs.outside.keep_silent.Goals as goal
use Rattle.spans.proofs.outside.keep_silent.Goals.{then-has_some, else-has_some}

pub loop-block-init : goal.loop-block-init
loop-block-init c = record {
  places = c.of-places.ensures.places;
  known = c.of-places.ensures.known;
  below = λ s lt. record { done = λ less. absurd (omega (arith, less)); rest = λ le. refl };
}

pub loop-block-preserved : goal.loop-block-preserved
loop-block-preserved c =
    let low = c.args.sums.now.low in
    let high = c.args.sums.now.high in
    let olds = c.args.words.now in
    let words = c.loop-block.words in
    let block = c.loop-block.block in
    let inv = c.loop-block.invariant in
    elim c.if-has_some.branch [
      | then-has_some w ↦ rw (w.words-is, w.places-is) (record {
        places = w.of_block.ensures.places;
        known = w.of_block.ensures.known;
        below = λ s lt. silent_block low high olds words w.keep_in_block.new.words w.of_block.result block s
            (inv.below s lt) (w.keep_in_block.ensures s) (w.of_block.ensures.found (s % 256) (omega arith));
      })
      | else-has_some w ↦ rw (w.words-is, w.places-is) (record {
        places = inv.places;
        known = inv.known;
        below = λ s lt. empty_block low high olds words block s (inv.below s lt)
            (c.has_some.ensures w.if-has_some.false s);
      })
    ]

pub returns : goal.returns
returns c = λ s lt. (c.loop-block.invariant.below s lt).done (omega (arith, lt))
