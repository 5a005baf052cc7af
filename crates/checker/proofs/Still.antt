-- The players that stay free when more levels fix some of them.
use Rattle.std.proofs.Common.{◌≡◌, ◌≢◌, ◌⊎◌, ℕ, ◌+◌, ◌-◌, ◌^◌, ◌<◌, ◌≤◌, Bool}
use Rattle.std.proofs.Common.{true, false, not, ◌&&◌, ◌||◌}
use Rattle.std.proofs.Common.{nat_lt, nat_eq, List, [], ◌++◌, refl, sym, ap, ◌∙◌, arith}
use Rattle.std.proofs.Common.{inl, inr}
use Rattle.std.proofs.lemmas.Bool.{false≢true}
use Rattle.std.proofs.lemmas.Bool.Decides.{nat_tests}
use Rattle.std.proofs.lemmas.List.Folds.{list_any-append}
use Rattle.std.specs.List.{list_any}
use Rattle.definitions.specs.Coalitions.{has_player, singleton, grand_coalition}
use Rattle.definitions.specs.Certificates.{Level, is_listed, has_bound, is_fixed, is_free}
use Rattle.definitions.proofs.Members.{has_player-grand_coalition}
use Rattle.checker.specs.Fixed.{IsFreeSet}
use Rattle.checker.proofs.Free.{within_from_players}
use Rattle.definitions.proofs.Cases.{and_false, same_or_other, nat_eq-same, nat_eq-other, below_or_above}
use Rattle.definitions.proofs.Parts.{has_player-past}

-- ---- the players that a loop has taken out

abbrev pub StillFree : ℕ → List Level → ℕ → ℕ → ℕ → Type 0
StillFree n levels f i s = (j : ℕ) → has_player s j ≡ (has_player f j && not (nat_lt j i && is_fixed n levels j))

less_same : (j i : ℕ) → j ≢ i → nat_lt j (i + 1) ≡ nat_lt j i
less_same j i ne = grind (arith, nat_tests)

less_here : (i : ℕ) → nat_lt i (i + 1) ≡ true
less_here i = grind (arith, nat_tests)

pub StillFree-without : (n : ℕ) (levels : List Level) (f i s t : ℕ) → StillFree n levels f i s
    → is_fixed n levels i ≡ true → ((j : ℕ) → has_player t j ≡ (not (nat_eq j i) && has_player s j))
    → StillFree n levels f (i + 1) t
StillFree-without n levels f i s t h fixed out j = elim (same_or_other j i) [
  | inl e ↦ rw e (out i ∙ rw (nat_eq-same i, less_here i, fixed) (sym (and_false (has_player f i))))
  | inr ne ↦ out j ∙ rw (nat_eq-other j i ne, less_same j i ne) (h j)
]

pub StillFree-kept : (n : ℕ) (levels : List Level) (f i s : ℕ) → StillFree n levels f i s
    → is_fixed n levels i ≡ false → StillFree n levels f (i + 1) s
StillFree-kept n levels f i s h free j = elim (same_or_other j i) [
  | inl e ↦ rw e
      (h i ∙ rw (free, less_here i) (ap (λ (b : Bool). has_player f i && not b) (and_false (nat_lt i i))))
  | inr ne ↦ rw (less_same j i ne) (h j)
]

-- ---- at the end

joined : (a b c d e f : Bool) → ((a || d) || (b || e) || (c || f)) ≡ ((a || b || c) || (d || e || f))
joined true b c d e f = refl
joined false true c d e f = left d e f c
  where
    left : (d e f c : Bool) → ((d || true) || (c || f)) ≡ true
    left true e f c = refl
    left false e f c = refl
joined false false true d e f = left d e f
  where
    left : (d e f : Bool) → ((d || e) || true) ≡ true
    left true e f = refl
    left false true f = refl
    left false false f = refl
joined false false false d e f = refl

is_fixed-append : (n : ℕ) (front more : List Level) (i : ℕ)
    → is_fixed n (front ++ more) i ≡ (is_fixed n front i || is_fixed n more i)
is_fixed-append n front more i =
    let lists = λ (t : ℕ). list_any-append (λ (l : Level). list_any (λ c. nat_eq c.0 t) l.coalitions) front more in
    let bounds =
    list_any-append
    (λ (l : Level). list_any
    (λ b. nat_eq b.0 i && Rattle.std.proofs.Common.int_le (Rattle.std.proofs.Common.pos 1) b.1) l.bounds)
    front more in
    rw (lists (singleton i), lists (grand_coalition n - singleton i), bounds)
    (joined (is_listed front (singleton i)) (is_listed front (grand_coalition n - singleton i))
    (has_bound front i) (is_listed more (singleton i)) (is_listed more (grand_coalition n - singleton i))
    (has_bound more i))

not_both : (a b c : Bool) → ((a && not b) && not (a && c)) ≡ (a && not (b || c))
not_both true true c = refl
not_both true false c = refl
not_both false b c = refl

free_more : (n : ℕ) (front more : List Level) (f s : ℕ) → IsFreeSet n front f → StillFree n more f n s → (i : ℕ)
    → has_player s i ≡ (nat_lt i n && is_free n (front ++ more) i)
free_more n front more f s h k i =
    k i
    ∙ rw (h.free i, is_fixed-append n front more i)
    (not_both (nat_lt i n) (is_fixed n front i) (is_fixed n more i))

beyond : (a n : ℕ) (t : Bool) → n ≤ a → (nat_lt a n && t) ≡ false
beyond a n t le = first_false (nat_lt a n) t (grind (arith, nat_tests))
  where
    first_false : (p q : Bool) → p ≡ false → (p && q) ≡ false
    first_false true q e = absurd (false≢true (sym e))
    first_false false q e = refl

pub IsFreeSet-more : (n : ℕ) (front more : List Level) (f s : ℕ) → IsFreeSet n front f → StillFree n more f n s
    → IsFreeSet n (front ++ more) s
IsFreeSet-more n front more f s h k = record {
  within =
      within_from_players n s
      (λ j le. free_more n front more f s h k j ∙ beyond j n (is_free n (front ++ more) j) le);
  free = free_more n front more f s h k;
}

-- no level at all: everybody is free
pub IsFreeSet-start : (n f : ℕ) → f ≡ grand_coalition n → f < 2 ^ n → IsFreeSet n [] f
IsFreeSet-start n f e lt = record { within = lt; free = λ i. ap (λ (s : ℕ). has_player s i) e ∙ all i }
  where
    yes : (i n : ℕ) → i < n → (nat_lt i n && true) ≡ true
    yes i n lt = grind (arith, nat_tests)

    all : (i : ℕ) → has_player (grand_coalition n) i ≡ (nat_lt i n && is_free n [] i)
    all i = elim (below_or_above i n) [
      | inl below ↦ has_player-grand_coalition n i below ∙ sym (yes i n below)
      | inr above ↦ sym (ap (λ (s : ℕ). has_player s i) e) ∙ has_player-past n f i lt above
          ∙ sym (beyond i n true above)
    ]
