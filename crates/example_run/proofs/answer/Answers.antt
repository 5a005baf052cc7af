use Rattle.std.proofs.Common.{◌≡◌, rules, ap, Some, []}
use Rattle.example_run.proofs.Alike.{ends_alike}
use Rattle.example_run.proofs.answer.Goals as goal

pub returns : goal.returns
returns c =
    let bytes : Some c.new-source.result ≡ Some c.args.document.items = ap Some c.new-source.ensures in
    let before : Some c.new-sink.result.line.items ≡ Some [] = ap Some c.new-sink.ensures in
    let after : Some c.run-status.new.sink.line.items ≡ Some c.into_line.result.items = search rules in
    (Some c.run-status.new.source, ends_alike _ _ _ _ _ _ _ _ _ c.run-status.ensures.ends bytes before after)
