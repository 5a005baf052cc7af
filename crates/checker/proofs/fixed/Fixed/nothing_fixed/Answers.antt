use Rattle.std.proofs.Common.{◌≤◌, ◌∙◌, refl, sym, inl, inr, []}
use Rattle.checker.proofs.GrayScan.{proper_within}
use Rattle.kohlberg.proofs.Marking.{IsMarking-start}
use Rattle.checker.proofs.Still.{IsFreeSet-start}
use Rattle.kohlberg.proofs.SpanScan.{SpansFixed-start}
use Rattle.checker.proofs.fixed.Fixed.nothing_fixed.Goals as goal
use Rattle.definitions.proofs.Masks.{grand_coalition-within}

pub clear-requires : goal.clear-requires
clear-requires c = rw c.new-span.ensures (proper_within c.args.n c.all-proper.result c.all-proper.ensures)

pub returns-in-Players-clause-fixes : goal.returns-in-Players-clause-fixes
returns-in-Players-clause-fixes c =
    IsFreeSet-start c.args.n c.all.result c.all.ensures (rw c.all.ensures (grand_coalition-within c.args.n))

pub returns-in-Span-clause-fixes : goal.returns-in-Span-clause-fixes
returns-in-Span-clause-fixes c =
    let few : c.args.n ≤ 16 = elim c.requires.few [ inl e ↦ (let k = sym c.in-Span.is ∙ e in cc) | inr h ↦ h ] in
    let start = SpansFixed-start c.args.n in
    let tests = rw c.new-span.ensures at c.clear.ensures in
    rw c.new-span.ensures (
      refl,
      few,
      start,
      IsMarking-start c.args.n _ [] c.all-proper.result c.clear.new.self start c.all-proper.ensures tests,
    )
