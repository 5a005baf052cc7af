-- What holds of each pair, or of some pair, of a level made from weights.
use Rattle.std.proofs.Common.{◌≡◌, ◌≢◌, ◌⊎◌, ℕ, zero, suc, ◌+◌, ◌-◌, ◌<◌, ◌≤◌}
use Rattle.std.proofs.Common.{Bool, true, false, List, [], ◌∷◌, ℤ, pos, refl, sym}
use Rattle.std.proofs.Common.{◌∙◌, inl, inr, arith, nat_eq, nat_le}
use Rattle.std.proofs.lemmas.Bool.{false≢true}
use Rattle.std.proofs.lemmas.Bool.Decides.{nat_tests, Decides-int_eq}
use Rattle.std.specs.Ordering.{int_eq}
use Rattle.std.specs.List.{list_any, AllByRecursion}
use Rattle.kohlberg.specs.Pairs.{with_pair, placed_behind}
use Rattle.kohlberg.proofs.WithPair.{any-with_pair}
use Rattle.nested_programs.specs.Chain.{HasWeight}
use Rattle.nested_programs.specs.Numbers.{outer_pairs, net, kept, bound_pairs}
use Rattle.nested_programs.proofs.Advance.{any_left, any_right}
use Rattle.definitions.proofs.Cases.{or_cases, or_left, or_right, true_or_false}
use Rattle.definitions.proofs.Alls.{all_join}

-- ---- the coalitions

pub any_placed_behind : (test : ℕ × ℤ → Bool) (ps qs : List (ℕ × ℤ))
    → (list_any test ps ≡ true) ⊎ (list_any test qs ≡ true) → list_any test (placed_behind ps qs) ≡ true
any_placed_behind test ps [] (inl h) = h
any_placed_behind test ps [] (inr h) = absurd (false≢true h)
any_placed_behind test ps (q ∷ qs) (inl h) =
    any_placed_behind test (with_pair q.0 q.1 ps) qs (inl (any-with_pair test q.0 q.1 ps (inr h)))
any_placed_behind test ps (q ∷ qs) (inr h) = elim (or_cases (test q) (list_any test qs) h) [
  | inl here ↦ any_placed_behind test (with_pair q.0 q.1 ps) qs (inl (any-with_pair test q.0 q.1 ps (inl here)))
  | inr more ↦ any_placed_behind test (with_pair q.0 q.1 ps) qs (inr more)
]

pub all_outer : (P : ℕ × ℤ → Type 0) (first : ℕ) (ws : List (ℕ × ℤ))
    → AllByRecursion (λ w. first ≤ w.0 → P (w.0 - first, w.1)) ws → AllByRecursion P (outer_pairs first ws)
all_outer P first [] h = tt
all_outer P first (w ∷ ws) h = elim (true_or_false (nat_le first w.0)) [
  | inl from ↦ rw from (h.0 (grind (arith, nat_tests)), all_outer P first ws h.1)
  | inr before ↦ rw before (all_outer P first ws h.1)
]

pub any_outer : (first : ℕ) (ws : List (ℕ × ℤ)) (s : ℕ) → HasWeight ws (first + s)
    → list_any (λ c. nat_eq c.0 s) (outer_pairs first ws) ≡ true
any_outer first [] s has = absurd has
any_outer first (w ∷ ws) s (inl here) =
    let e = here.0 in
    let t : nat_le first w.0 ≡ true = grind (arith, nat_tests) in
    let u : nat_eq (w.0 - first) s ≡ true = grind (arith, nat_tests) in
    rw t (rw u refl)
any_outer first (w ∷ ws) s (inr more) = elim (true_or_false (nat_le first w.0)) [
  | inl from ↦ rw from
      (or_right (nat_eq (w.0 - first) s) (list_any (λ c. nat_eq c.0 s) (outer_pairs first ws))
      (any_outer first ws s more))
  | inr before ↦ rw before (any_outer first ws s more)
]

-- ---- the bounds

pub all_kept : (P : ℕ × ℤ → Type 0) (key : ℕ) (z : ℤ) → (z ≢ pos 0 → P (key, z)) → AllByRecursion P (kept key z)
all_kept P key z h = elim (true_or_false (int_eq z (pos 0))) [
  | inl none ↦ rw none tt
  | inr some ↦ rw some (h (λ e. false≢true (sym some ∙ (Decides-int_eq z (pos 0)).1 e)), tt)
]

pub all_bound : (P : ℕ × ℤ → Type 0) (ws : List (ℕ × ℤ)) (first n count : ℕ)
    → ((i : ℕ) → i < count → net ws (first + i) (first + i + n) ≢ pos 0 → P (i, net ws (first + i) (first + i + n)))
    → AllByRecursion P (bound_pairs ws first n count)
all_bound P ws first n zero h = tt
all_bound P ws first n (suc j) h =
    let z : ℤ = net ws (first + j) (first + j + n) in
    all_join P (bound_pairs ws first n j) (kept j z) (all_bound P ws first n j (λ i lt. h i (omega arith)))
    (all_kept P j z (h j (omega arith)))

any_kept : (test : ℕ × ℤ → Bool) (key : ℕ) (z : ℤ) → z ≢ pos 0 → test (key, z) ≡ true
    → list_any test (kept key z) ≡ true
any_kept test key z some h = elim (true_or_false (int_eq z (pos 0))) [
  | inl none ↦ absurd (some ((Decides-int_eq z (pos 0)).0 none))
  | inr other ↦ rw other (or_left (test (key, z)) false h)
]

pub any_bound : (test : ℕ × ℤ → Bool) (ws : List (ℕ × ℤ)) (first n count i : ℕ) → i < count
    → net ws (first + i) (first + i + n) ≢ pos 0 → test (i, net ws (first + i) (first + i + n)) ≡ true
    → list_any test (bound_pairs ws first n count) ≡ true
any_bound test ws first n zero i lt some h = absurd (omega arith)
any_bound test ws first n (suc j) i lt some h = elim (true_or_false (nat_eq i j)) [
  | inl same ↦
      let e : i ≡ j = grind (arith, nat_tests) in
      let here : list_any test (kept i (net ws (first + i) (first + i + n))) ≡ true =
      any_kept test i (net ws (first + i) (first + i + n)) some h in
      any_right test (bound_pairs ws first n j) (kept j (net ws (first + j) (first + j + n))) (rw e at here)
  | inr apart ↦ any_left test (bound_pairs ws first n j) (kept j (net ws (first + j) (first + j + n)))
      (any_bound test ws first n j i (grind (arith, nat_tests)) some h)
]
