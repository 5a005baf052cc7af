use Rattle.std.proofs.Common.{◌≡◌, length, arith, ap, ◌∙◌}
use mir.Syntax.{w128}
use Rattle.airport_scheme.proofs.Runs.{grown_from, written_back}
use Rattle.airport_scheme.proofs.payments.grow.Goals as goal
use Rattle.definitions.proofs.Casts.{cast_kept}

pub returns : goal.returns
returns c =
    let s = c.scale.new.pay in
    let size = cast_kept w128 c.args.size (omega arith) in
    let rate = cast_kept w128 c.args.rate (omega arith) in
    let long : length s ≡ length c.args.pay.now.items = c.scale.auto.pay ∙ ap length c.deref_mut.ensures.value in
    let back = written_back s c.args.pay.now.items c.args.pay.now.len (omega arith) in
    let each = rw (size, c.deref_mut.ensures.value) at c.scale.ensures in
    let e = rw (back, rate) at c.loop-d.invariant in
    grown_from c.args.pay.now.items s c.loop-d.pay.items c.args.size c.args.rate c.args.count c.loop-d.d long each e
    (omega arith)
