use Rattle.std.proofs.Common.{ℕ, ◌∙◌, subst, ◌++◌, IsTrue}
use Rattle.std.specs.Bool.{Decides}
use Rattle.definitions.specs.Certificates.{InSpan}
use Rattle.spans.specs.Span.{IsKept}
use Rattle.spans.specs.Outside.{is_marked}
use Rattle.kohlberg.specs.Extends.{Extends, IsLevelVector}
use Rattle.kohlberg.proofs.Marking.{IsMarking-more}
use Rattle.checker.proofs.Still.{IsFreeSet-more}
use Rattle.kohlberg.proofs.SpanScan.{SpansFixed-more}
use Rattle.checker.proofs.fixed.Fixed.fix.Goals as goal

pub returns-in-FreePlayers-clause-fixes : goal.returns-in-FreePlayers-clause-fixes
returns-in-FreePlayers-clause-fixes c =
    rw c.in-FreePlayers.is
    (λ front h. IsFreeSet-more c.args.n front c.args.levels.now c.in-FreePlayers.free c.still_free.result h
    c.still_free.ensures)

pub returns-in-Vectors-clause-fixes : goal.returns-in-Vectors-clause-fixes
returns-in-Vectors-clause-fixes c =
    let old = c.in-Vectors.span.kept in
    let new = c.add_levels.new.span.kept in
    let more = c.args.levels.now in
    let olds = c.in-Vectors.outside in
    let words = c.clear.new.self in
    rw c.in-Vectors.is (λ front h.
    let same = c.add_levels.ensures.players ∙ h.0 in
    let extends = subst (λ (m : ℕ). Extends m old new (IsLevelVector m more)) h.0 c.add_levels.ensures.extends in
    let spans = SpansFixed-more c.args.n old new front more h.2 extends in
    let tests =
    subst
    (λ (m : ℕ). (s : ℕ) → Decides (is_marked words s) (IsTrue (is_marked olds s) × ¬ InSpan m (IsKept new) s))
    same c.clear.ensures in (
      same,
      h.1,
      spans,
      IsMarking-more c.args.n old new front (front ++ more) olds words h.2 spans extends.still h.3 tests,
    ))
