use Rattle.std.proofs.Common.{◌≡◌, ◌*◌, ◌+◌, ◌/◌, ◌%◌, ℕ, List, arith, ap, sym}
use Rattle.std.proofs.Common.{◌∙◌, slice_index_or}
use Rattle.definitions.specs.Coalitions.{has_player}
use Rattle.spans.specs.Outside.{is_marked}
use Rattle.spans.proofs.outside.Outside.word.Goals as goal

pub returns : goal.returns
returns c = λ j lt.
    let p = c.args.place in
    let words = c.self.inside.words in
    let at : (64 * p + j) / 64 ≡ p = omega (arith, lt) in
    let bit : (64 * p + j) % 64 ≡ j = omega (arith, lt) in
    ap (λ (t : ℕ). has_player (slice_index_or words p 0) t) (sym bit)
    ∙ ap (λ (t : ℕ). has_player (slice_index_or words t 0) ((64 * p + j) % 64)) (sym at)
    ∙ ap (λ (ws : List ℕ). is_marked ws (64 * p + j)) c.self.view_is
