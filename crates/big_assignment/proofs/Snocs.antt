-- The pairs of one row more.
use Rattle.std.proofs.Common.{◌≡◌, ℕ, zero, suc, ◌+◌, ◌<◌, ◌≤◌, List, [], ◌∷◌}
use Rattle.std.proofs.Common.{◌++◌}
use Rattle.std.proofs.Common.{refl, ap, subst, ◌∙◌, inl, inr, arith}
use Rattle.big_assignment.specs.Mates.{pairs_from}
use Rattle.big_assignment.specs.Solutions.{player_pairs}
use Rattle.definitions.proofs.Cases.{below_or_above, nat_lt-less, nat_lt-past}

pairs_from-more : (mate : ℕ → ℕ) (columns i k l : ℕ) → i + k ≡ l → mate l < columns
    → pairs_from mate columns i (suc k) ≡ pairs_from mate columns i k ++ (l, mate l) ∷ []
pairs_from-more mate columns i zero l e lt =
    subst (λ (j : ℕ). pairs_from mate columns j 1 ≡ (l, mate l) ∷ []) (let f : l ≡ i = omega arith in f)
    (rw (nat_lt-less (mate l) columns lt) refl)
pairs_from-more mate columns i (suc k) l e lt =
    let ih = pairs_from-more mate columns (suc i) k l (omega arith) lt in
    elim (below_or_above (mate i) columns) [
      | inl here ↦ rw (nat_lt-less (mate i) columns here) (ap (λ (ps : List (ℕ × ℕ)). (i, mate i) ∷ ps) ih)
      | inr none ↦ rw (nat_lt-past (mate i) columns none) ih
    ]

pairs_from-same : (mate : ℕ → ℕ) (columns i k l : ℕ) → i + k ≡ l → columns ≤ mate l
    → pairs_from mate columns i (suc k) ≡ pairs_from mate columns i k
pairs_from-same mate columns i zero l e ge =
    subst (λ (j : ℕ). pairs_from mate columns j 1 ≡ []) (let f : l ≡ i = omega arith in f)
    (rw (nat_lt-past (mate l) columns ge) refl)
pairs_from-same mate columns i (suc k) l e ge =
    let ih = pairs_from-same mate columns (suc i) k l (omega arith) ge in
    elim (below_or_above (mate i) columns) [
      | inl here ↦ rw (nat_lt-less (mate i) columns here) (ap (λ (ps : List (ℕ × ℕ)). (i, mate i) ∷ ps) ih)
      | inr none ↦ rw (nat_lt-past (mate i) columns none) ih
    ]

players-append : (buyers : ℕ) (ps qs : List (ℕ × ℕ))
    → player_pairs buyers (ps ++ qs) ≡ player_pairs buyers ps ++ player_pairs buyers qs
players-append buyers [] qs = refl
players-append buyers (p ∷ ps) qs =
    ap (λ (rs : List (ℕ × ℕ)). (p.0, buyers + p.1) ∷ rs) (players-append buyers ps qs)

pub player_pairs_more : (buyers : ℕ) (mate : ℕ → ℕ) (columns l : ℕ) → mate l < columns
    → player_pairs buyers (pairs_from mate columns 0 (l + 1))
    ≡ player_pairs buyers (pairs_from mate columns 0 l) ++ (l, buyers + mate l) ∷ []
player_pairs_more buyers mate columns l lt =
    let one : l + 1 ≡ suc l = omega arith in
    ap (λ (k : ℕ). player_pairs buyers (pairs_from mate columns 0 k)) one
    ∙ ap (player_pairs buyers) (pairs_from-more mate columns 0 l l (omega arith) lt)
    ∙ players-append buyers (pairs_from mate columns 0 l) ((l, mate l) ∷ [])

pub player_pairs_same : (buyers : ℕ) (mate : ℕ → ℕ) (columns l : ℕ) → columns ≤ mate l
    → player_pairs buyers (pairs_from mate columns 0 (l + 1)) ≡ player_pairs buyers (pairs_from mate columns 0 l)
player_pairs_same buyers mate columns l ge =
    let one : l + 1 ≡ suc l = omega arith in
    ap (λ (k : ℕ). player_pairs buyers (pairs_from mate columns 0 k)) one
    ∙ ap (player_pairs buyers) (pairs_from-same mate columns 0 l l (omega arith) ge)
