-- The first pair of a list that fails.
use Rattle.std.proofs.Common.{◌≡◌, ℕ, zero, suc, ◌+◌, ◌<◌, ◌≤◌, List, [], ◌∷◌}
use Rattle.std.proofs.Common.{length, get_or}
use Rattle.std.proofs.Common.{drop, ℤ, refl, sym, ap, subst, ◌∙◌, inl, inr, arith}
use Rattle.std.specs.List.{AllByRecursion}
use Rattle.std.proofs.lemmas.List.{at_drop_more, drop_all}
use Rattle.definitions.specs.Failures.{IsFirstFailing}

-- what is known of the pairs from place i on decides the list
pub record Leads (P : ℕ × ℤ → Type 0) (ps : List (ℕ × ℤ)) (i : ℕ) : Type 0 where
  pub all : AllByRecursion P (drop i ps) → AllByRecursion P ps
  pub first : (k : ℕ) → IsFirstFailing P (drop i ps) k → IsFirstFailing P ps k

module _ (P : ℕ × ℤ → Type 0) (ps : List (ℕ × ℤ)) where
  pub leads_start : Leads P ps 0
  leads_start = record { all = λ a. a; first = λ k f. f }

  -- behind the last pair
  pub leads_end : (i : ℕ) → Leads P ps i → length ps ≤ i → AllByRecursion P ps
  leads_end i l h = l.all (subst (AllByRecursion P) (sym (drop_all i ps h)) tt)

  module _ (i : ℕ) (p : ℕ × ℤ) (h : i < length ps) (at : p ≡ get_or ps i p) (l : Leads P ps i) where
    turn : p ∷ drop (i + 1) ps ≡ drop i ps
    turn = ap (λ q. q ∷ drop (i + 1) ps) at ∙ sym (at_drop_more (λ qs. qs) ps i p h)

    -- the pair at place i passes
    pub leads_more : P p → Leads P ps (i + 1)
    leads_more passed = record {
      all = λ a. l.all (subst (AllByRecursion P) turn (passed, a));
      first = λ k f. l.first k (subst (λ qs. IsFirstFailing P qs k) turn (inr (passed, f)));
    }

    -- it fails
    pub leads_failing : ¬ P p → IsFirstFailing P ps p.0
    leads_failing failed = l.first p.0 (subst (λ qs. IsFirstFailing P qs p.0) turn (inl (failed, refl)))

-- whatever stands for what is past the end
same_read : (ps : List (ℕ × ℤ)) (i : ℕ) (d e : ℕ × ℤ) → i < length ps → get_or ps i d ≡ get_or ps i e
same_read [] i d e h = absurd (omega arith)
same_read (p ∷ ps) zero d e h = refl
same_read (p ∷ ps) (suc i) d e h = same_read ps i d e (omega arith)

module _ (P : ℕ × ℤ → Type 0) (ps : List (ℕ × ℤ)) (i : ℕ) (d : ℕ × ℤ) (h : i < length ps) (l : Leads P ps i) where
  pub leads_more_at : P (get_or ps i d) → Leads P ps (i + 1)
  leads_more_at passed = leads_more P ps i (get_or ps i d) h (same_read ps i d (get_or ps i d) h) l passed

  pub leads_failing_at : ¬ P (get_or ps i d) → IsFirstFailing P ps (get_or ps i d).0
  leads_failing_at failed = leads_failing P ps i (get_or ps i d) h (same_read ps i d (get_or ps i d) h) l failed
