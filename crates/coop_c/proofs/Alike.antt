-- What is said of the end of a run holds for equal documents and lines; and what statuses a served document can have.
use Rattle.std.proofs.Common.{◌≡◌, ◌≢◌, ◌⊎◌, ℕ, List, Option, Some, subst, refl, inl, inr, ap, sym, ◌∙◌, arith}
use Rattle.ports.specs.Causes.{CountRose}
use Rattle.coop.specs.Completeness.{IsComplete}
use Rattle.coop.specs.Outcome.{Ends, status_number}
use Rattle.coop.specs.declared.status.Status.{Status}
use Rattle.coop.specs.declared.status.Status.TheVariants as status
use Rattle.coop_c.specs.Calls.{IsServed}

pub ends_alike : (w : List (List ℕ)) (a b n t u x y : Option (List ℕ)) (s : Status) → Ends w a n t x s
    → a ≡ b → t ≡ u → x ≡ y → Ends w b n u y s
ends_alike w a b n t u x y s e same_bytes same_before same_after =
    subst (λ (k : Option (List ℕ)). Ends w k n u y s) same_bytes
    (subst (λ (k : Option (List ℕ)). Ends w a n k y s) same_before
    (subst (λ (k : Option (List ℕ)). Ends w a n t k s) same_after e))

write_failed : (s : Status) → (s ≡ status.WriteFault) ⊎ (s ≢ status.WriteFault)
write_failed status.Done = inr (λ e. omega (arith, ap status_number e))
write_failed status.Negative = inr (λ e. omega (arith, ap status_number e))
write_failed status.Usage = inr (λ e. omega (arith, ap status_number e))
write_failed status.Refused = inr (λ e. omega (arith, ap status_number e))
write_failed status.ReadFault = inr (λ e. omega (arith, ap status_number e))
write_failed status.WriteFault = inl refl
write_failed status.OutOfMemory = inr (λ e. omega (arith, ap status_number e))

-- a count that stands at 0 did not rise
not_risen : (n : ℕ) → n ≡ 0 → ¬ CountRose 0 n
not_risen n zero rose = grind (arith, zero, rose)

one_more : {A B C D : Type 0} → A ⊎ B ⊎ D → A ⊎ B ⊎ C ⊎ D
one_more (inl a) = inl a
one_more (inr (inl b)) = inr (inl b)
one_more (inr (inr d)) = inr (inr (inr d))

module _ (words : List (List ℕ)) (document : List ℕ) (left : Option (List ℕ)) (faults now : ℕ) (s : Status)
    (is_left : left ≡ Some document) (none : faults ≡ 0) (unchanged : s ≢ status.WriteFault → now ≡ faults)
    (complete : IsComplete words left 0 0 faults now s) where
  without_fault : IsServed words document → s ≢ status.WriteFault
      → (s ≡ status.Done) ⊎ (s ≡ status.Negative) ⊎ (s ≡ status.OutOfMemory)
  without_fault served not_failed =
      complete served.command document served.contents served.said is_left served.is_document served.serves
      (not_risen 0 refl)
      (subst (λ (f : ℕ). ¬ CountRose f now) (sym none) (not_risen now (unchanged not_failed ∙ none)))

  found : IsServed words document → (s ≡ status.WriteFault) ⊎ (s ≢ status.WriteFault)
      → (s ≡ status.Done) ⊎ (s ≡ status.Negative) ⊎ (s ≡ status.WriteFault) ⊎ (s ≡ status.OutOfMemory)
  found served (inl fault) = inr (inr (inl fault))
  found served (inr not_failed) = one_more (without_fault served not_failed)

  pub answered : IsServed words document
      → (s ≡ status.Done) ⊎ (s ≡ status.Negative) ⊎ (s ≡ status.WriteFault) ⊎ (s ≡ status.OutOfMemory)
  answered served = found served (write_failed s)
