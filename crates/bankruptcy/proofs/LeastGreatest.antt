-- A greatest sum over the coalitions of the first players, and the least mask that has it, with one player more.
use Rattle.std.proofs.Common.{◌≡◌, ℕ, ◌+◌, ◌^◌, ◌<◌, ◌||◌}
use Rattle.std.proofs.Common.{nat_eq, ℤ, pos, ◌+ℤ◌, ◌<ℤ◌, ◌≤ℤ◌, Option, Some, None, MatchOption}
use Rattle.std.proofs.Common.{sym, ap, ◌∙◌, inl, inr, arith}
use Rattle.std.proofs.lemmas.Int.{ints, by_lt_z}
use Rattle.definitions.proofs.Ring.{linear}
use Rattle.definitions.proofs.Parts.{has_player-past, sum_over-more}
use Rattle.definitions.proofs.Parts.{more-is}
use Rattle.definitions.specs.Coalitions.{has_player, sum_over}
use Rattle.definitions.specs.Games.{Game, Allocation, excess, Blocks, IsChosenBlocker}
use Rattle.bankruptcy.specs.Arms.{IsLeastGreatest}
use Rattle.definitions.proofs.Masks.{masks-double, low_or_high}
use Rattle.definitions.proofs.SumsOver.{sum_over-empty}

-- ---- a coalition with one player more

-- by its members it is the sum of the masks
pub mask_with : (r c i : ℕ) → c < 2 ^ i → ((j : ℕ) → has_player r j ≡ (nat_eq j i || has_player c j))
    → r ≡ c + 2 ^ i
mask_with r c i below h = more-is c i r (has_player-past i c i below (omega arith)) h

-- ---- the sum of a base and the members' numbers

-- a base, and the members' numbers
abbrev pub linear_at : ℤ → ℕ → (ℕ → ℤ) → ℕ → ℤ
linear_at base n a s = base +ℤ sum_over n a s

pub linear-empty : (base : ℤ) (n : ℕ) (a : ℕ → ℤ) → linear_at base n a 0 ≡ base
linear-empty base n a =
    omega (arith, linear, sum_over-empty n a)

linear-more : (base : ℤ) (n : ℕ) (a : ℕ → ℤ) (i t : ℕ) → i < n → t < 2 ^ i
    → linear_at base n a (t + 2 ^ i) ≡ linear_at base n a t +ℤ a i
linear-more base n a i t lt below =
    let e = sum_over-more n t i a lt (has_player-past i t i below (omega arith)) in
    omega (arith, linear, e)

-- ---- the steps

pub IsLeastGreatest-start : (v : ℕ → ℤ) (s : ℕ) (m : ℤ) → s ≡ 0 → m ≡ v 0 → IsLeastGreatest v (2 ^ 0) s m
IsLeastGreatest-start v s m none e = record {
  within = omega arith;
  value = e ∙ ap v (sym none);
  greatest = λ t lt. let here : t ≡ 0 = omega arith in rw here (omega (arith, ints, e));
  least = λ t lt. absurd (omega arith);
}

-- the player's number is positive: it joins
pub IsLeastGreatest-joins : (base : ℤ) (n : ℕ) (a : ℕ → ℤ) (i c r : ℕ) (m k : ℤ) → i < n
    → IsLeastGreatest (linear_at base n a) (2 ^ i) c m → pos 0 <ℤ a i → r ≡ c + 2 ^ i → k ≡ m +ℤ a i
    → IsLeastGreatest (linear_at base n a) (2 ^ (i + 1)) r k
IsLeastGreatest-joins base n a i c r m k lt h positive mask sum =
    let p = masks-double i in
    let within = h.within in
    record {
      within = omega arith;
      value = rw mask (omega (arith, linear, linear-more base n a i c lt within, h.value));
      greatest = λ t below. elim (low_or_high i t below) [
        | inl low ↦ let le = h.greatest t low in omega (arith, linear, le)
        | inr (u, small, e) ↦
            let le = h.greatest u small in rw e (omega (arith, linear, le, linear-more base n a i u lt small))
      ];
      least = λ t below. elim (low_or_high i t (omega arith)) [
        | inl low ↦ let le = h.greatest t low in omega (arith, linear, le)
        | inr (u, small, e) ↦
            let less = h.least u (omega arith) in
            rw e (omega (arith, linear, less, linear-more base n a i u lt small))
      ];
    }

-- it isn't: nothing changes
pub IsLeastGreatest-stays : (base : ℤ) (n : ℕ) (a : ℕ → ℤ) (i c : ℕ) (m : ℤ) → i < n
    → IsLeastGreatest (linear_at base n a) (2 ^ i) c m → a i ≤ℤ pos 0
    → IsLeastGreatest (linear_at base n a) (2 ^ (i + 1)) c m
IsLeastGreatest-stays base n a i c m lt h low =
    let p = masks-double i in
    let within = h.within in
    record {
      within = omega arith;
      value = h.value;
      greatest = λ t below. elim (low_or_high i t below) [
        | inl less ↦ h.greatest t less
        | inr (u, small, e) ↦
            let le = h.greatest u small in rw e (omega (arith, linear, le, linear-more base n a i u lt small))
      ];
      least = h.least;
    }

-- ---- the blocker

chosen : (g : Game) (x : Allocation) (v : ℕ → ℤ) (s : ℕ) (m : ℤ)
    → ((t : ℕ) → t < 2 ^ g.players → excess g x t ≡ v t) → IsLeastGreatest v (2 ^ g.players) s m → pos 0 <ℤ m
    → IsChosenBlocker g x s
chosen g x v s m same h up =
    let within = h.within in
    let here = same s within in
    record {
      within = within;
      blocks = omega (arith, linear, here, h.value);
      greatest = λ t lt. let le = h.greatest t lt in omega (arith, linear, le, same t lt, here, h.value);
      least = λ t lt.
          let less = h.least t lt in
          let there = same t (omega arith) in omega (arith, linear, less, there, here, h.value);
    }

none_blocks : (g : Game) (x : Allocation) (v : ℕ → ℤ) (s : ℕ) (m : ℤ)
    → ((t : ℕ) → t < 2 ^ g.players → excess g x t ≡ v t) → IsLeastGreatest v (2 ^ g.players) s m → m ≤ℤ pos 0
    → (t : ℕ) → t < 2 ^ g.players → ¬ Blocks g x t
none_blocks g x v s m same h low t lt = λ blocks.
    let le = h.greatest t lt in
    omega (arith, linear, le, same t lt, blocks)

-- the least mask of greatest excess is the blocker where that is positive
pub blocker-least : (g : Game) (x : Allocation) (v : ℕ → ℤ) (s : ℕ) (m : ℤ) (r : Option ℕ)
    → ((t : ℕ) → t < 2 ^ g.players → excess g x t ≡ v t) → IsLeastGreatest v (2 ^ g.players) s m
    → (pos 0 <ℤ m → r ≡ Some s) → (m ≤ℤ pos 0 → r ≡ None)
    → MatchOption r ((t : ℕ) → t < 2 ^ g.players → ¬ Blocks g x t) (IsChosenBlocker g x)
blocker-least g x v s m r same h some none =
    by_lt_z (pos 0) m
    (λ up. rw (some up) (chosen g x v s m same h up))
    (λ low. rw (none low) (none_blocks g x v s m same h low))
