use Rattle.std.proofs.Common.{◌≡◌, ◌*◌, ◌%◌, ◌^◌, ℕ, arith, ap, ◌∙◌}
use Rattle.std.proofs.Common.{not, nat_eq, ◌&&◌}
use Rattle.std.proofs.lemmas.Nat.{one_shl}
use Rattle.definitions.specs.Coalitions.{has_player}
use Rattle.spans.proofs.Marks.{later_word, first_word}
use Rattle.spans.proofs.outside.proper_word.Goals as goal

pub returns-then-place-eq0 : goal.returns-then-place-eq0
returns-then-place-eq0 c = λ j lt.
    let few = c.requires.few in
    let mask : 1 * 2 ^ c.args.n % 2 ^ 64 ≡ 2 ^ c.args.n = one_shl c.args.n 64 (omega (arith, few)) in
    first_word c.args.n c.args.place c.min-count.result c.result.inside.0 j c.if-place-eq0.true
    (λ h. omega (arith, mask, lt, h, c.min-count.ensures, c.saturating_sub.ensures))
    (λ h. omega (arith, mask, lt, h, c.min-count.ensures, c.saturating_sub.ensures))
    (ap (λ (t : ℕ). has_player t j) c.result.view_is ∙ c.without.ensures j
    ∙ ap (λ (t : ℕ). not (nat_eq j 0) && has_player t j) c.all-word.ensures)

pub returns-else-place-eq0 : goal.returns-else-place-eq0
returns-else-place-eq0 c = λ j lt.
    let few = c.requires.few in
    let mask : 1 * 2 ^ c.args.n % 2 ^ 64 ≡ 2 ^ c.args.n = one_shl c.args.n 64 (omega (arith, few)) in
    later_word c.args.n c.args.place c.min-count.result c.word.inside.0 j (omega (arith, c.if-place-eq0.false))
    (λ h. omega (arith, mask, lt, h, c.min-count.ensures, c.saturating_sub.ensures))
    (λ h. omega (arith, mask, lt, h, c.min-count.ensures, c.saturating_sub.ensures))
    (ap (λ (t : ℕ). has_player t j) c.word.view_is ∙ ap (λ (t : ℕ). has_player t j) c.all-word.ensures)
