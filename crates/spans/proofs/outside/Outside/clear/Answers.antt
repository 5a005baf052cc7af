use Rattle.std.proofs.Common.{ℕ, List, subst, sym, IsTrue, ◌<◌, ◌^◌}
use Rattle.std.specs.Bool.{Decides}
use Rattle.definitions.specs.Certificates.{InSpan}
use Rattle.spans.specs.Span.{IsKept}
use Rattle.spans.specs.Outside.{is_marked}
use Rattle.spans.proofs.Marks.{cleared_marks}
use Rattle.spans.proofs.outside.Outside.clear.Goals as goal

pub returns : goal.returns
returns c =
    let n = c.args.span.now.players in
    let A = λ (s : ℕ). InSpan n (IsKept c.args.span.now.kept) s in
    let within =
    subst (λ (ws : List ℕ). (s : ℕ) → IsTrue (is_marked ws s) → s < 2 ^ n) (sym c.self.view_is) c.requires in
    subst
    (λ (ws : List ℕ). (s : ℕ) → Decides (is_marked c.take_out.new.words s) (IsTrue (is_marked ws s) × (A s → ⊥)))
    c.self.view_is
    (cleared_marks c.self.inside.words c.held_among-held.result c.take_out.new.words n A c.self.told
    c.take_out.array_long within c.take_out.ensures c.held_among-held.ensures)
