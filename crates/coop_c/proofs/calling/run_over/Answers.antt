use Rattle.std.proofs.Common.{◌≡◌, rules, Some, [], take}
use Rattle.coop_c.proofs.Alike.{ends_alike, answered}
use Rattle.coop_c.proofs.calling.run_over.Goals as goal

pub returns-clause-ends : goal.returns-clause-ends
returns-clause-ends c =
    let given = c.new-sink.result in
    let bytes : Some c.new-source.result.left.now ≡ Some c.args.document.now = search rules in
    let before : Some (take given.count given.room.now) ≡ Some [] = search rules in
    let sink = c.run-status.new.sink in
    let after : Some (take sink.count sink.room.now) ≡ Some (take sink.count c.line-1.given.0) = search rules in (
      Some c.run-status.new.source.left.now,
      ends_alike _ _ _ _ _ _ _ _ _ c.run-status.ensures.ends bytes before after,
    )

pub returns-clause-complete : goal.returns-clause-complete
returns-clause-complete c =
    let bytes : Some c.new-source.result.left.now ≡ Some c.args.document.now = search rules in
    answered _ _ _ _ _ _ bytes c.new-sink.ensures.no_faults c.run-status.ensures.write.unchanged
    c.run-status.ensures.complete
