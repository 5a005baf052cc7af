-- Of two lists of numbers, one has a greater number at some place, or nowhere.
use Rattle.std.proofs.Common.{◌⊎◌, ℕ, zero, suc, ◌<◌, ℤ, ◌<ℤ◌, ◌≤ℤ◌, ap, inl, inr, arith}
use Rattle.std.proofs.lemmas.Int.{by_lt_z}
use Rattle.definitions.proofs.Cases.{less_or_last}
use Rattle.definitions.proofs.Ring.{linear}

pub some_greater : (n : ℕ) (f g : ℕ → ℤ) → ((j : ℕ) × (j < n) × (g j <ℤ f j)) ⊎ ((j : ℕ) → j < n → f j ≤ℤ g j)
some_greater zero f g = inr (λ j lt. absurd (omega arith))
some_greater (suc n) f g = elim (some_greater n f g) [
  | inl found ↦ inl (found.0, omega (arith, found.1), found.2)
  | inr none ↦
      by_lt_z (g n) (f n)
      (λ lt. inl (n, omega arith, lt))
      (λ le. inr
      (λ j lt. elim (less_or_last j n lt)
      [ inl less ↦ none j less | inr same ↦ omega (arith, linear, le, ap f same, ap g same) ]))
]
