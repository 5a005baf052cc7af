-- How many members a coalition has.
use Rattle.std.proofs.Common.{◌≡◌, ℕ, zero, suc, ◌+◌, ◌-◌, ◌^◌, ◌<◌, ◌≤◌, Bool}
use Rattle.std.proofs.Common.{true, false, [], ◌∷◌}
use Rattle.std.proofs.Common.{length, length-append, add-one, refl, sym, ap, subst, ◌∙◌, inl, inr}
use Rattle.std.proofs.Common.{arith}
use Rattle.std.proofs.lemmas.Nat.Bits.{bit_at-zero, bit_at-lt, bit_at_above, same_from_bits}
use Rattle.std.specs.Int.{bit_at}
use Rattle.definitions.proofs.Members.{members-zero, members-more_yes, members-more_no}
use Rattle.definitions.proofs.Parts.{has_player-past}
use Rattle.definitions.specs.Coalitions.{has_player, members, size}
use Rattle.definitions.proofs.Cases.{less_or_last, below_or_above, zero_bit}

-- one player more is a member more, or none
pub length-more_yes : (n s : ℕ) → has_player s n ≡ true → length (members (n + 1) s) ≡ length (members n s) + 1
length-more_yes n s h = rw (members-more_yes n s h) (omega (arith, length-append (members n s) (n ∷ [])))

pub length-more_no : (n s : ℕ) → has_player s n ≡ false → length (members (n + 1) s) ≡ length (members n s)
length-more_no n s h = rw (members-more_no n s h) refl

-- no more members than players
pub length-few : (n s : ℕ) → length (members n s) ≤ n
length-few zero s = rw (members-zero s) (omega arith)
length-few (suc n) s = rw (← add-one n) (with_last (has_player s n) refl (length-few n s))
  where
    with_last : (b : Bool) → has_player s n ≡ b → length (members n s) ≤ n → length (members (n + 1) s) ≤ n + 1
    with_last true h low = omega (arith, length-more_yes n s h)
    with_last false h low = omega (arith, length-more_no n s h)

-- players beyond those of a game are no members
length-beyond : (n k s : ℕ) → s < 2 ^ n → length (members (n + k) s) ≡ length (members n s)
length-beyond n zero s h = let same : n + 0 ≡ n = omega arith in rw same refl
length-beyond n (suc k) s h =
    let next : n + suc k ≡ (n + k) + 1 = omega arith in
    rw next (length-more_no (n + k) s (has_player-past n s (n + k) h (omega arith)) ∙ length-beyond n k s h)

-- without members, each player is outside
none-at : (n s : ℕ) → length (members n s) ≡ 0 → (i : ℕ) → i < n → has_player s i ≡ false
none-at zero s e i lt = absurd (omega arith)
none-at (suc n) s e i lt = with_last (has_player s n) refl (none-at n s)
  where
    with_last : (b : Bool) → has_player s n ≡ b → (length (members n s) ≡ 0 → (i : ℕ) → i < n → has_player s i ≡ false)
        → has_player s i ≡ false
    with_last true h less = absurd (omega (arith, length-more_yes n s h, rw (← add-one n) at e))
    with_last false h less =
        let rest : length (members n s) ≡ 0 = sym (length-more_no n s h) ∙ (rw (← add-one n) at e) in
        elim (less_or_last i n lt) [ inl lower ↦ less rest i lower | inr same ↦ ap (has_player s) same ∙ h ]

empty-from_none : (n s : ℕ) → s < 2 ^ n → length (members n s) ≡ 0 → s ≡ 0
empty-from_none n s h e =
    same_from_bits s 0 (λ j. elim (below_or_above j n) [
      | inl lt ↦ zero_bit (bit_at s j) (bit_at-lt s j) (none-at n s e j lt) ∙ sym (bit_at-zero j)
      | inr le ↦ bit_at_above s n j h le ∙ sym (bit_at-zero j)
    ])

pub size-at : (n s : ℕ) → n ≤ 64 → s < 2 ^ n → size s ≡ length (members n s)
size-at n s few h =
    let all : n + (64 - n) ≡ 64 = omega arith in
    subst (λ (k : ℕ). length (members k s) ≡ length (members n s)) all (length-beyond n (64 - n) s h)

pub size-few : (n s : ℕ) → n ≤ 64 → s < 2 ^ n → size s ≤ n
size-few n s few h = omega (arith, size-at n s few h, length-few n s)

pub size-some : (n s : ℕ) → n ≤ 64 → 0 < s → s < 2 ^ n → 1 ≤ size s
size-some n s few some h =
    let none : size s ≡ 0 → ⊥ = λ e. let z = empty-from_none n s h (sym (size-at n s few h) ∙ e) in omega arith in
    positive (size s) none
  where
    positive : (k : ℕ) → (k ≡ 0 → ⊥) → 1 ≤ k
    positive zero h = absurd (h refl)
    positive (suc k) h = omega arith
