use Rattle.document_parts.specs.Numbers.{seen}
use Rattle.document_parts.specs.Scales.{pair_number}
use Rattle.document_parts.proofs.PartsRead.{parts_more}
use Rattle.document_parts.proofs.values.add_seconds.Goals as goal

pub loop-pair-preserved : goal.loop-pair-preserved
loop-pair-preserved c =
    parts_more pair_number c.args.pairs.now c.loop-pair.pair-index c.pair-item.result (seen c.args.values.now.items)
    (seen c.loop-pair.values.items) (seen c.add_second.new.values.items) c.loop-pair-test.true c.pair-item.is
    c.loop-pair.invariant c.in_ok-add_second.ensures
