use Rattle.std.proofs.Common.{◌≡◌, ◌*◌, ◌+◌, ℕ, not, nat_eq, nat_lt, arith, ap, sym}
use Rattle.std.proofs.Common.{◌∙◌, inl, inr}
use Rattle.definitions.proofs.Cases.{same_or_other, nat_eq-equal, nat_eq-other, nat_lt-less, nat_lt-past, and_true}
use Rattle.definitions.proofs.Members.{has_player-grand_coalition}
use Rattle.separation.proofs.lazy.Lazy.marked_word.Goals as goal

-- a number isn't 0, or is above it
not_zero : (j : ℕ) → not (nat_eq j 0) ≡ nat_lt 0 j
not_zero j = elim (same_or_other j 0) [
  | inl same ↦ ap not (nat_eq-equal j 0 same) ∙ sym (nat_lt-past 0 j (omega (arith, same)))
  | inr other ↦ ap not (nat_eq-other j 0 other) ∙ sym (nat_lt-less 0 j (omega (arith, other)))
]

pub returns-then-place-eq0 : goal.returns-then-place-eq0
returns-then-place-eq0 g c = λ j lt.
    let e : j ≡ 64 * c.args.place + j = omega (arith, c.if-place-eq0.true) in
    let one = has_player-grand_coalition 64 j lt in
    let two = and_true (not (nat_eq j 0)) in
    cc (c.result.view_is, c.without.ensures j, c.all.ensures, not_zero j, c.in-None.is)

pub returns-else-place-eq0 : goal.returns-else-place-eq0
returns-else-place-eq0 g c = λ j lt.
    let one = nat_lt-less 0 (64 * c.args.place + j) (omega (arith, c.if-place-eq0.false)) in
    let two = has_player-grand_coalition 64 j lt in
    cc (c.result-else-place-eq0.view_is, c.all-else-place-eq0.ensures, c.in-None.is)
