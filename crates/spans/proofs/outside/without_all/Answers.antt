use Rattle.spans.proofs.Marks.{without_bits}
use Rattle.spans.proofs.outside.without_all.Goals as goal

pub returns : goal.returns
returns c = λ j lt. without_bits c.args.word c.args.other j c.ranges.other.fits lt
