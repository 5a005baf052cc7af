-- What is said of the end of a run holds for equal documents and lines.
use Rattle.std.proofs.Common.{◌≡◌, ℕ, List, Option, subst}
use Rattle.coop.specs.Outcome.{Ends}
use Rattle.coop.specs.declared.status.Status.{Status}

pub ends_alike : (w : List (List ℕ)) (a b n t u x y : Option (List ℕ)) (s : Status) → Ends w a n t x s
    → a ≡ b → t ≡ u → x ≡ y → Ends w b n u y s
ends_alike w a b n t u x y s e same_bytes same_before same_after =
    subst (λ (k : Option (List ℕ)). Ends w k n u y s) same_bytes
    (subst (λ (k : Option (List ℕ)). Ends w a n k y s) same_before
    (subst (λ (k : Option (List ℕ)). Ends w a n t k s) same_after e))
