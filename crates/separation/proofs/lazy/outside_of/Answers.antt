use Rattle.separation.proofs.Outside.{IsMarking-of}
use Rattle.separation.proofs.lazy.outside_of.Goals as goal

pub returns : goal.returns
returns c =
    λ levels spans. IsMarking-of c.args.n c.args.span.now.kept levels c.all-outside.result c.clear.new.self spans
    c.all-outside.ensures (rw c.requires.players at c.clear.ensures)
