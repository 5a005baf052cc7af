-- A status that is told by its number.
use Rattle.std.proofs.Common.{◌≡◌, ◌⊎◌, ℕ, inl, inr, ap, ◌∙◌}
use Rattle.coop.specs.Outcome.{status_number}
use Rattle.coop.specs.declared.status.Status.{Status}

module _ (n : ℕ) (s : Status) (told : n ≡ status_number s) where
  number : {a : Status} → s ≡ a → n ≡ status_number a
  number e = told ∙ ap status_number e

  pub one_of_two : {a b : Status} → (s ≡ a) ⊎ (s ≡ b) → (n ≡ status_number a) ⊎ (n ≡ status_number b)
  one_of_two (inl e) = inl (number e)
  one_of_two (inr e) = inr (number e)

  pub one_of_three : {a b c : Status} → (s ≡ a) ⊎ (s ≡ b) ⊎ (s ≡ c)
      → (n ≡ status_number a) ⊎ (n ≡ status_number b) ⊎ (n ≡ status_number c)
  one_of_three (inl e) = inl (number e)
  one_of_three (inr e) = inr (one_of_two e)

  pub one_of_four : {a b c d : Status} → (s ≡ a) ⊎ (s ≡ b) ⊎ (s ≡ c) ⊎ (s ≡ d)
      → (n ≡ status_number a) ⊎ (n ≡ status_number b) ⊎ (n ≡ status_number c) ⊎ (n ≡ status_number d)
  one_of_four (inl e) = inl (number e)
  one_of_four (inr e) = inr (one_of_three e)
