use borrow.Author.Count.{below_more}
use Rattle.std.proofs.Common.{arith}
use Rattle.definitions.specs.Coalitions.{singleton}
use Rattle.definitions.specs.Certificates.{InSpan}
use Rattle.spans.specs.Span.{IsKept}
use Rattle.kohlberg.proofs.Outer.{inside_from, outside_from, room_of, spanned_first, spanned_all}
use Rattle.kohlberg.proofs.spanned.first_unspanned.Goals as goal
use Rattle.definitions.proofs.Masks.{singleton-within}

pub holds-requires : goal.holds-requires
holds-requires c =
    rw (c.single.ensures, c.requires.players) (singleton-within c.args.n c.loop-i.i c.loop-i-test.true)

pub returns-then-not-holds-clause-least : goal.returns-then-not-holds-clause-least
returns-then-not-holds-clause-least c =
    let out =
    outside_from c.holds.result c.args.span.now.players c.args.n c.single.result (singleton c.loop-i.i)
    c.args.span.now.kept c.requires.players c.single.ensures c.holds.ensures.value c.if-not-holds.true in
    λ levels h. spanned_first c.args.n c.args.span.now.kept levels c.loop-i.i h c.loop-i-test.true out
    c.loop-i.invariant

pub loop-i-preserved : goal.loop-i-preserved
loop-i-preserved c =
    below_more (λ j. InSpan c.args.n (IsKept c.args.span.now.kept) (singleton j)) c.loop-i.i c.loop-i.invariant
    (inside_from c.holds.result c.args.span.now.players c.args.n c.single.result (singleton c.loop-i.i)
    c.args.span.now.kept c.requires.players c.single.ensures c.holds.ensures.value c.if-not-holds.false)

pub returns-clause-least : goal.returns-clause-least
returns-clause-least c =
    λ levels h. spanned_all c.args.n c.args.span.now.kept levels h (λ j lt. c.loop-i.invariant j (omega arith))

pub returns-then-not-holds-clause-room : goal.returns-then-not-holds-clause-room
returns-then-not-holds-clause-room c =
    room_of c.holds.result c.args.span.now.players c.args.n c.args.span.now.kept c.requires.players
    c.holds.ensures.room c.if-not-holds.true
