-- Levels with one level more: what some level passes, the last one passes or one in front does.
use Rattle.std.proofs.Common.{◌≡◌, ◌⊎◌, ℕ, Bool, true, false, ◌&&◌, nat_eq, List, [], ◌∷◌, ◌++◌, pos, int_le, sym, ◌∙◌}
use Rattle.std.proofs.Common.{inl, inr}
use Rattle.std.specs.List.{list_any}
use Rattle.std.proofs.lemmas.Bool.{false≢true}
use Rattle.std.proofs.lemmas.List.Folds.{list_any-append}
use Rattle.definitions.proofs.Cases.{or_cases, or_left, or_right}
use Rattle.definitions.specs.Certificates.{Level}

-- a coalition stands in the level; a player has a weight of at least 1 in its bounds
abbrev pub lists : ℕ → Level → Bool
lists s l = list_any (λ c. nat_eq c.0 s) l.coalitions

abbrev pub bounds_player : ℕ → Level → Bool
bounds_player i l = list_any (λ b. nat_eq b.0 i && int_le (pos 1) b.1) l.bounds

-- the last level passes a test, or one in front does
pub last_any : (test : Level → Bool) (front : List Level) (l : Level) → list_any test (front ++ l ∷ []) ≡ true
    → (list_any test front ≡ true) ⊎ (test l ≡ true)
last_any test front l e =
    elim (or_cases (list_any test front) (list_any test (l ∷ [])) (sym (list_any-append test front (l ∷ [])) ∙ e)) [
      | inl a ↦ inl a
      | inr b ↦ elim (or_cases (test l) false b) [ inl c ↦ inr c | inr none ↦ absurd (false≢true none) ]
    ]

pub front_any : (test : Level → Bool) (front : List Level) (l : Level) → list_any test front ≡ true
    → list_any test (front ++ l ∷ []) ≡ true
front_any test front l e =
    list_any-append test front (l ∷ []) ∙ or_left (list_any test front) (list_any test (l ∷ [])) e

pub new_any : (test : Level → Bool) (front : List Level) (l : Level) → test l ≡ true
    → list_any test (front ++ l ∷ []) ≡ true
new_any test front l e =
    list_any-append test front (l ∷ [])
    ∙ or_right (list_any test front) (list_any test (l ∷ [])) (or_left (test l) false e)
