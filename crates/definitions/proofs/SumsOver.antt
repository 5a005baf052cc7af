-- Sums over the members of a coalition, number by number, and what its members get.
use Rattle.std.proofs.Common.{◌≡◌, ℕ, ◌<◌, Bool, true, false, cond, length, ℤ, pos}
use Rattle.std.proofs.Common.{◌+ℤ◌, ◌*ℤ◌, refl, sym, ap, ◌∙◌}
use Rattle.definitions.proofs.Ring.{mul-zeroℤ}
use Rattle.definitions.proofs.Members.{has_player-empty, zero_either}
use Rattle.definitions.proofs.Members.{sum_below-same, sum_below-zero, sum_below-add, sum_below-times}
use Rattle.definitions.proofs.Parts.{part}
use Rattle.definitions.specs.Coalitions.{has_player, sum_over}
use Rattle.definitions.specs.Games.{Game, Allocation, share, amount, IsAllocation}

pub sum_over-same : (n : ℕ) (a b : ℕ → ℤ) (s : ℕ) → ((i : ℕ) → i < n → a i ≡ b i) → sum_over n a s ≡ sum_over n b s
sum_over-same n a b s h = sum_below-same n (part a s) (part b s) (λ i lt. rw (h i lt) refl)

pub sum_over-times : (n : ℕ) (a : ℕ → ℤ) (c : ℤ) (s : ℕ) → sum_over n (λ i. c *ℤ a i) s ≡ c *ℤ sum_over n a s
sum_over-times n a c s =
    sum_below-same n (part (λ i. c *ℤ a i) s) (λ i. c *ℤ part a s i) (λ i lt. times_either (has_player s i) (a i))
    ∙ sum_below-times n (part a s) c
  where
    times_either : (b : Bool) (z : ℤ) → cond b (c *ℤ z) (pos 0) ≡ c *ℤ cond b z (pos 0)
    times_either true z = refl
    times_either false z = sym (mul-zeroℤ c)

pub sum_over-add : (n : ℕ) (a b : ℕ → ℤ) (s : ℕ) → sum_over n (λ i. a i +ℤ b i) s ≡ sum_over n a s +ℤ sum_over n b s
sum_over-add n a b s =
    sum_below-same n (part (λ i. a i +ℤ b i) s) (λ i. part a s i +ℤ part b s i)
    (λ i lt. add_either (has_player s i) (a i) (b i)) ∙ sum_below-add n (part a s) (part b s)
  where
    add_either : (c : Bool) (y z : ℤ) → cond c (y +ℤ z) (pos 0) ≡ cond c y (pos 0) +ℤ cond c z (pos 0)
    add_either true y z = refl
    add_either false y z = refl

pub sum_over-zero : (n s : ℕ) → sum_over n (λ i. pos 0) s ≡ pos 0
sum_over-zero n s = sum_below-zero n (part (λ i. pos 0) s) (λ i lt. zero_either (has_player s i) (pos 0) refl)

-- nobody has nothing
pub sum_over-empty : (n : ℕ) (a : ℕ → ℤ) → sum_over n a 0 ≡ pos 0
sum_over-empty n a = sum_below-zero n (part a 0) (λ i lt. rw (has_player-empty i) refl)

pub amount-empty : (x : Allocation) → amount x 0 ≡ pos 0
amount-empty x = sum_over-empty (length x.shares) (share x)

-- what a coalition gets, over the players of the game
pub amount-at : (g : Game) (x : Allocation) (s : ℕ) → IsAllocation g x → amount x s ≡ sum_over g.players (share x) s
amount-at g x s h = ap (λ k. sum_over k (share x) s) h.0
