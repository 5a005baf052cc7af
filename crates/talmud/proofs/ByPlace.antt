-- The rule by the places of an order of the players.
use Rattle.std.proofs.Common.{◌≡◌, ℕ, ◌<◌, ◌≤◌, Bool, true, false, List, length, ℤ}
use Rattle.std.proofs.Common.{pos, ◌+ℤ◌, ◌*ℤ◌, ◌<ℤ◌, ◌≤ℤ◌, if◌then◌else◌}
use Rattle.definitions.specs.Sums.{sum_below}
use Rattle.definitions.specs.Games.{Allocation, share}
use Rattle.orders.specs.Orders.{IsOrder}
use Rattle.talmud.specs.Rule.{cut, loss, cut_sum}

-- The first m players in the order of their claims get half of them, which is at most t. Of the others, half of
-- whose claim is more, each gets t, where the estate is at most half of the claims, and otherwise loses t.
pub record IsRule (estate : ℕ) (claims : List ℕ) (at : ℕ → ℕ) (m : ℕ) (gain : Bool) (t : ℤ) (x : Allocation) : Type
    0 where
  pub order : IsOrder (length claims) (cut estate claims) at
  pub players : length x.shares ≡ length claims
  pub positive : pos 1 ≤ℤ x.den
  pub all : sum_below (length claims) (share x) ≡ x.den *ℤ pos estate
  pub within : m ≤ length claims
  pub low : pos 0 ≤ℤ t
  pub half : (j : ℕ) → j < m → share x (at j) ≡ loss estate claims x (at j)
  pub under : (j : ℕ) → j < m → share x (at j) ≤ℤ t
  pub rest : (j : ℕ) → m ≤ j → j < length claims
      → (if gain then share x (at j) else loss estate claims x (at j)) ≡ t
  pub over : (j : ℕ) → m ≤ j → j < length claims
      → t <ℤ (if gain then loss estate claims x (at j) else share x (at j))
  pub little : gain ≡ true → (pos estate +ℤ pos estate) ≤ℤ cut_sum estate claims
  pub much : gain ≡ false → cut_sum estate claims <ℤ (pos estate +ℤ pos estate)
