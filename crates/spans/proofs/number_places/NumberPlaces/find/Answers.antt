use Rattle.std.proofs.Common.{arith, slice_index_or, ◌-◌, to_z, of_z}
use mir.Syntax.{w64}
use Rattle.spans.proofs.Chains.{IsFoundFrom, found_step}
use Rattle.spans.proofs.number_places.NumberPlaces.find.Goals as goal

pub loop-after-preserved : goal.loop-after-preserved
loop-after-preserved c =
    let inv = c.loop-after.invariant in
    let wanted = to_z w64 (of_z w64 c.args.wanted) in
    let p = c.loop-after.after in
    let old : IsFoundFrom c.args.numbers.now wanted c.loop-after.found p =
    record { within = inv.within; has_slot = inv.has_slot; found_is = inv.found_is } in
    let after =
    found_step c.args.numbers.now wanted c.loop-after.found c.mark_if.new.found p
    (slice_index_or c.args.self.now.before (p - 1) 0) c.stands_at.result c.loop-after-test.true old
    c.stands_at.ensures c.mark_if.ensures (c.requires.befores (p - 1) (omega arith)) in
    record { within = after.within; has_slot = after.has_slot; found_is = after.found_is }
