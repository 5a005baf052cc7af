-- Coalitions of the players seen so far, with one more player seen.
use Rattle.std.proofs.Common.{◌≡◌, ◌⊎◌, ℕ, ◌+◌, ◌^◌, ◌<◌, Bool, true, false, refl}
use Rattle.std.proofs.Common.{sym, ap, ◌∙◌, inl, inr}
use Rattle.std.proofs.lemmas.Bool.{false≢true}
use Rattle.definitions.proofs.Members.{has_player-empty, has_player-grand_coalition}
use Rattle.definitions.proofs.Parts.{has_player-past, same_coalition}
use Rattle.definitions.specs.Coalitions.{has_player}
use Rattle.worth_core.proofs.SeenSets.{IsSeenSet-cases, IsSeenSet-with, IsSeenSet-without, IsSeenSet-lacks}
use Rattle.orders.specs.Orders.{front, IsOrder}
use Rattle.definitions.proofs.Cases.{below_or_above}

-- a coalition of n players, all of whom are seen
abbrev pub IsWithin : ℕ → ℕ → ℕ → Type 0
IsWithin n seen s = (s < 2 ^ n) × ((i : ℕ) → has_player s i ≡ true → has_player seen i ≡ true)

-- a coalition of the players seen now was there before, or is one that was, with the new player
pub IsWithin-cases : (n seen i s : ℕ) → i < n → has_player seen i ≡ false → IsWithin n (seen + 2 ^ i) s
    → IsWithin n seen s ⊎ ((t : ℕ) × IsWithin n seen t × (s ≡ t + 2 ^ i))
IsWithin-cases n seen i s lt new h =
    elim (IsSeenSet-cases n 0 seen i (λ holds lacks. true) s lt new (h.0, h.1, refl)) [
      | inl old ↦ inl (old.0, old.1)
      | inr more ↦ inr (more.0, (more.1.0, more.1.1), more.2)
    ]

pub IsWithin-with : (n seen i t : ℕ) → i < n → has_player seen i ≡ false → IsWithin n seen t
    → IsWithin n (seen + 2 ^ i) (t + 2 ^ i)
IsWithin-with n seen i t lt new h =
    let more = IsSeenSet-with n 0 seen i (λ holds lacks. true) t lt new (h.0, h.1, refl) in (more.0, more.1)

pub IsWithin-without : (n seen i t : ℕ) → i < n → has_player seen i ≡ false → IsWithin n seen t
    → IsWithin n (seen + 2 ^ i) t
IsWithin-without n seen i t lt new h =
    let less = IsSeenSet-without n 0 seen i (λ holds lacks. true) t lt new (h.0, h.1, refl) in (less.0, less.1)

pub IsWithin-lacks : (n seen i t : ℕ) → has_player seen i ≡ false → IsWithin n seen t → has_player t i ≡ false
IsWithin-lacks n seen i t new h =
    IsSeenSet-lacks n 0 seen i (λ holds lacks. true) t new (h.0, h.1, refl)

-- where nobody is seen
pub IsWithin-nobody : (n s : ℕ) → IsWithin n 0 s → s ≡ 0
IsWithin-nobody n s h = same_coalition s 0 (λ i. decide i (has_player s i) refl)
  where
    decide : (i : ℕ) (b : Bool) → has_player s i ≡ b → has_player s i ≡ has_player 0 i
    decide i true e = absurd (false≢true (sym (has_player-empty i) ∙ h.1 i e))
    decide i false e = e ∙ sym (has_player-empty i)

-- where all players are seen
pub IsWithin-everybody : (n : ℕ) (number at : ℕ → ℕ) → IsOrder n number at → (s : ℕ) → s < 2 ^ n
    → IsWithin n (front at n) s
IsWithin-everybody n number at o s lt = (
  lt,
  λ i h. elim (below_or_above i n) [
    | inl below ↦ ap (λ (m : ℕ). has_player m i) o.full ∙ has_player-grand_coalition n i below
    | inr past ↦ absurd (false≢true (sym (has_player-past n s i lt past) ∙ h))
  ],
)
