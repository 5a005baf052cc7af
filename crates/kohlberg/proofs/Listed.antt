-- What levels list.
use Rattle.std.proofs.Common.{◌≡◌, ℕ, true, false, nat_eq, List}
use Rattle.std.proofs.Common.{[], ◌∷◌, ◌++◌, ◌∙◌, inl, inr}
use Rattle.std.specs.List.{list_any}
use Rattle.std.proofs.lemmas.List.Folds.{list_any-append}
use Rattle.definitions.specs.Certificates.{Level, is_listed}
use Rattle.definitions.proofs.Cases.{or_either}

pub listed_before : (levels : List Level) (l : Level) (s : ℕ) → is_listed levels s ≡ true
    → is_listed (levels ++ l ∷ []) s ≡ true
listed_before levels l s h =
    list_any-append (λ l. list_any (λ c. nat_eq c.0 s) l.coalitions) levels (l ∷ [])
    ∙ or_either (is_listed levels s) (is_listed (l ∷ []) s) (inl h)

pub listed_here : (levels : List Level) (l : Level) (s : ℕ) → list_any (λ c. nat_eq c.0 s) l.coalitions ≡ true
    → is_listed (levels ++ l ∷ []) s ≡ true
listed_here levels l s h =
    list_any-append (λ l. list_any (λ c. nat_eq c.0 s) l.coalitions) levels (l ∷ [])
    ∙ or_either (is_listed levels s) (is_listed (l ∷ []) s)
    (inr (or_either (list_any (λ c. nat_eq c.0 s) l.coalitions) false (inl h)))
