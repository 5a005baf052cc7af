use Rattle.std.proofs.Common.{arith}
use Rattle.spans.proofs.Blocks.{marks_in_block}
use Rattle.spans.proofs.outside.keep_in_block.Goals as goal

pub returns : goal.returns
returns c = λ s.
    let inv = c.loop-i.invariant in
    marks_in_block c.args.words.now c.loop-i.words c.args.places.now c.args.block s
    (λ j less. inv.done j (omega (arith, less))) inv.before (λ q le. inv.rest q (omega (arith, le)))
