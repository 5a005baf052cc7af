-- Two who have to agree: by computing.
use Rattle.std.proofs.Common.{◌≡◌, ℕ, pos, refl, sym, arith}
use Rattle.std.proofs.lemmas.Int.{ints}
use Rattle.law_answers.specs.Newcomers.{TwoWhoAgree}

apart : ¬ (pos 2 ≡ pos 0)
apart e = omega (arith, ints, e)

none_is_one : (i : ℕ) → i ≡ 1 → ¬ (i ≡ 0)
none_is_one i one none = omega (arith, one, none)

pub two_agree : TwoWhoAgree
two_agree = (
  refl,
  refl,
  refl,
  λ e. apart e,
  λ h. apart (h.balanced 3 0 1 (omega arith) refl refl (λ e. none_is_one 1 refl (sym e))),
)
