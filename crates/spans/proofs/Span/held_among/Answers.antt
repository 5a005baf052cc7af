use Rattle.std.proofs.Common.{◌<◌, ◌^◌, ℕ, IsTrue, subst, refl}
use Rattle.std.specs.Bool.{Decides}
use Rattle.definitions.specs.Certificates.{InSpan}
use Rattle.spans.specs.Span.{SpanData, IsKept}
use Rattle.spans.specs.Outside.{is_marked}
use Rattle.spans.proofs.Grown.{entries_small}
use Rattle.spans.proofs.Marks.{silent_inside, below_all}
use Rattle.spans.proofs.Span.held_among.Goals as goal

pub without_weights-requires-clause-small : goal.without_weights-requires-clause-small
without_weights-requires-clause-small c = entries_small _ _ _ _ _ c.self.invariant

pub returns : goal.returns
returns c =
    let a = c.self.inside in
    subst
    (λ (v : SpanData). (s : ℕ) → s < 2 ^ v.players
    → Decides (is_marked c.without_weights.result s)
    (IsTrue (is_marked c.args.words s) × InSpan v.players (IsKept v.kept) s)) c.self.view_is
    (λ s lt. silent_inside a.players a.kept.items a.fixed a.entries a.den a.players s _ _ c.self.invariant lt refl
    (c.without_weights.ensures s (below_all a.players s c.self.invariant.few lt)))
