-- Sets of points as tests, and attachment plans over them.
use Rattle.std.proofs.Common.{◌≡◌, ℕ, ◌+◌, Bool, true, not, ◌&&◌, nat_eq}
use Rattle.std.proofs.Common.{List, [], ◌∷◌, ◌++◌, sym, ap, ◌∙◌, arith}
use Rattle.definitions.specs.Classes.{Matrix, joined, removed, IsAttachment, plan_cost}

-- each point of the first set is in the second
abbrev pub Within : (ℕ → Bool) → (ℕ → Bool) → Type 0
Within a b = (j : ℕ) → a j ≡ true → b j ≡ true

abbrev pub Same : (ℕ → Bool) → (ℕ → Bool) → Type 0
Same a b = (j : ℕ) → a j ≡ b j

pub joined-within : (a b : ℕ → Bool) (p : ℕ) → Within a b → Within (joined a p) (joined b p)
joined-within a b p h j = λ e. grind (arith, h j)

pub removed-same : (a b : ℕ → Bool) (p : ℕ) → Same a b → Same (removed a p) (removed b p)
removed-same a b p h j = ap (λ x. not (nat_eq j p) && x) (h j)

-- more connected points do no harm
pub attachment-more : (c d w u : ℕ → Bool) (plan : List (ℕ × ℕ)) → Within c d → Same w u → IsAttachment c w plan
    → IsAttachment d u plan
attachment-more c d w u [] h k a = λ j. sym (k j) ∙ a j
attachment-more c d w u (p ∷ plan) h k a = (
  h p.0 a.0,
  sym (k p.1) ∙ a.1,
  attachment-more (joined c p.1) (joined d p.1) (removed w p.1) (removed u p.1) plan (joined-within c d p.1 h)
      (removed-same w u p.1 k) a.2,
)

pub plan_cost-append : (matrix : Matrix) (a b : List (ℕ × ℕ))
    → plan_cost matrix (a ++ b) ≡ plan_cost matrix a + plan_cost matrix b
plan_cost-append matrix [] b = omega arith
plan_cost-append matrix (p ∷ a) b = omega (arith, plan_cost-append matrix a b)
