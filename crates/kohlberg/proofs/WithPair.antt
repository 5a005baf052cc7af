-- A pair put among pairs in mask order.
use Rattle.std.proofs.Common.{◌≡◌, ◌≢◌, ◌⊎◌, ℕ, suc, ◌+◌, ◌≤◌, Bool, true, false}
use Rattle.std.proofs.Common.{cond, nat_lt, List, [], ◌∷◌}
use Rattle.std.proofs.Common.{length, ℤ, pos, ◌+ℤ◌, if◌then◌else◌, refl, ap, inl, inr, arith}
use Rattle.std.proofs.Common.{◌||◌}
use Rattle.std.specs.List.{list_any, AllByRecursion}
use Rattle.std.proofs.lemmas.Bool.{false≢true}
use Rattle.std.proofs.lemmas.Bool.Decides.{nat_tests}
use Rattle.definitions.proofs.Ring.{linear}
use Rattle.definitions.specs.Coalitions.{has_player, weight_at}
use Rattle.definitions.specs.Certificates.{Ascends}
use Rattle.kohlberg.specs.Pairs.{with_pair}
use Rattle.definitions.proofs.Cases.{from_not_nat_lt, or_either}

pub weight_at-with_pair : (s : ℕ) (w : ℤ) (ps : List (ℕ × ℤ)) (i : ℕ)
    → weight_at (with_pair s w ps) i ≡ (if has_player s i then w else pos 0) +ℤ weight_at ps i
weight_at-with_pair s w [] i = refl
weight_at-with_pair s w (p ∷ ps) i =
    let ih = weight_at-with_pair s w ps i in
    let step : (b : Bool)
    → weight_at (cond b ((s, w) ∷ (p ∷ ps)) (p ∷ with_pair s w ps)) i
    ≡ (if has_player s i then w else pos 0) +ℤ ((if has_player p.0 i then p.1 else pos 0) +ℤ weight_at ps i) =
    elim [
      | true ↦ refl
      | false ↦ omega (arith, linear, ih)
    ] in
    step (nat_lt s p.0)

pub all-with_pair : (P : ℕ × ℤ → Type 0) (s : ℕ) (w : ℤ) (ps : List (ℕ × ℤ)) → P (s, w) → AllByRecursion P ps
    → AllByRecursion P (with_pair s w ps)
all-with_pair P s w [] here h = (here, tt)
all-with_pair P s w (p ∷ ps) here h =
    let step : (b : Bool) → AllByRecursion P (cond b ((s, w) ∷ (p ∷ ps)) (p ∷ with_pair s w ps)) = elim [
      | true ↦ (here, (h.0, h.1))
      | false ↦ (h.0, all-with_pair P s w ps here h.1)
    ] in
    step (nat_lt s p.0)

pub any-with_pair : (test : ℕ × ℤ → Bool) (s : ℕ) (w : ℤ) (ps : List (ℕ × ℤ))
    → (test (s, w) ≡ true) ⊎ (list_any test ps ≡ true) → list_any test (with_pair s w ps) ≡ true
any-with_pair test s w [] (inl h) = rw h refl
any-with_pair test s w [] (inr h) = absurd (false≢true h)
any-with_pair test s w (p ∷ ps) h =
    let step : (b : Bool) → list_any test (cond b ((s, w) ∷ (p ∷ ps)) (p ∷ with_pair s w ps)) ≡ true = elim [
      | true ↦ or_either (test (s, w)) (list_any test (p ∷ ps)) h
      | false ↦ later (test p) h (λ k. any-with_pair test s w ps k)
    ] in
    step (nat_lt s p.0)
  where
    later : (t : Bool) → (test (s, w) ≡ true) ⊎ ((t || list_any test ps) ≡ true)
        → ((test (s, w) ≡ true) ⊎ (list_any test ps ≡ true) → list_any test (with_pair s w ps) ≡ true)
        → (t || list_any test (with_pair s w ps)) ≡ true
    later true h ih = refl
    later false h ih = ih h

pub length-with_pair : (s : ℕ) (w : ℤ) (ps : List (ℕ × ℤ)) → length (with_pair s w ps) ≡ suc (length ps)
length-with_pair s w [] = refl
length-with_pair s w (p ∷ ps) =
    let ih = length-with_pair s w ps in
    let step : (b : Bool) → length (cond b ((s, w) ∷ (p ∷ ps)) (p ∷ with_pair s w ps)) ≡ suc (suc (length ps)) =
    elim [
      | true ↦ refl
      | false ↦ ap suc ih
    ] in
    step (nat_lt s p.0)

-- a new key keeps the keys apart
pub ascends-with_pair : (low s : ℕ) (w : ℤ) (ps : List (ℕ × ℤ)) → low ≤ s → AllByRecursion (λ p. p.0 ≢ s) ps
    → Ascends low ps → Ascends low (with_pair s w ps)
ascends-with_pair low s w [] le new h = (le, tt)
ascends-with_pair low s w (p ∷ ps) le new h =
    let ne = new.0 in
    let step : (b : Bool) → nat_lt s p.0 ≡ b → Ascends low (cond b ((s, w) ∷ (p ∷ ps)) (p ∷ with_pair s w ps)) =
    elim [
      | true ↦ λ e. (le, (less s p.0 e, h.1))
      | false ↦ λ e. (h.0, ascends-with_pair (p.0 + 1) s w ps (more s p.0 e ne) new.1 h.1)
    ] in
    step (nat_lt s p.0) refl
  where
    less : (a b : ℕ) → nat_lt a b ≡ true → a + 1 ≤ b
    less a b e = grind (arith, nat_tests)

    more : (a b : ℕ) → nat_lt a b ≡ false → b ≢ a → b + 1 ≤ a
    more a b e ne = differ a b (from_not_nat_lt a b e) ne
      where
        differ : (a b : ℕ) → b ≤ a → b ≢ a → b + 1 ≤ a
        differ a b le ne = grind arith
