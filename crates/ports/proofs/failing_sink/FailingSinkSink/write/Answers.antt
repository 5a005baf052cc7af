use Rattle.std.proofs.Common.{IsTrue, inl, arith}
use Rattle.std.proofs.lemmas.Grind.{common_steps}
use Rattle.ports.specs.Failing.{is_chosen}
use Rattle.ports.proofs.failing_sink.FailingSinkSink.write.Goals as goal

pub returns-then-contains-clause-chosen : goal.returns-then-contains-clause-chosen
returns-then-contains-clause-chosen c =
    let chosen : IsTrue (is_chosen c.self.inside.fails.items c.self.inside.calls) = grind (arith, common_steps) in
    (λ _. inl (rw (← c.self.view_is) chosen), λ _. c.fail.ensures.failed)
