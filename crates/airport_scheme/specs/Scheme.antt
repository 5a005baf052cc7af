-- Littlechild's payments for an airport game, place by place from the least cost (Littlechild 1974).
--
--   cost_at a k         the cost at place k
--   pay_at pay k        the payment at place k
--   IsScheme            what the payments at the places are
--   IsPaid              shares that give each player minus the payment of its place
--   size_of, IsTerm     what each would pay if a block ended at some place
--   IsLeastTerm         the block that comes next
--   IsGrown             the payments with those of the next block
--   IsPayment           payments of the sizes of shares
--   IsByPlayer          the shares by player
use Rattle.std.specs.Prelude.{◌≡◌, ℕ, suc, ◌+◌, ◌-◌, ◌^◌, ◌<◌, ◌≤◌, unsigned_abs, nat_lt}
use Rattle.std.specs.Prelude.{List, length, ℤ, pos}
use Rattle.std.specs.Prelude.{◌+ℤ◌, ◌-ℤ◌, ◌*ℤ◌, ◌<ℤ◌, ◌≤ℤ◌, neg_ℤ, slice_index, slice_index_or, if◌then◌else◌, All}
use Rattle.definitions.specs.Sums.{sum_below}
use Rattle.definitions.specs.Games.{Allocation, share}
use Rattle.orders.specs.Orders.{IsOrder}
use Rattle.airport.specs.Airport.{Airport, place}

abbrev pub cost_at : Airport → ℕ → ℕ
cost_at a k = slice_index a.costs (place a k)

abbrev pub pay_at : List ℤ → ℕ → ℤ
pay_at pay k = slice_index_or pay k (pos 0)

-- what the players at n places pay over den, where c are the costs at the places: the payments rise, the first k
-- players leave room under their cost for one more payment of the last of them, and leave none if the next pays
-- more
pub record IsScheme (n : ℕ) (c : ℕ → ℕ) (pay : ℕ → ℤ) (den : ℤ) : Type 0 where
  pub positive : pos 1 ≤ℤ den
  pub least : (k : ℕ) → k < n → pos 0 ≤ℤ pay k
  pub rises : (j k : ℕ) → j < k → k < n → pay j ≤ℤ pay k
  pub under : (k : ℕ) → suc k < n → (sum_below (suc k) pay +ℤ pay k) ≤ℤ (den *ℤ pos (c k))
  pub tight : (k : ℕ) → suc k < n → pay k <ℤ pay (suc k) → sum_below (suc k) pay +ℤ pay k ≡ den *ℤ pos (c k)
  pub all : (k : ℕ) → suc k ≡ n → sum_below n pay ≡ den *ℤ pos (c k)

pub record IsPaid (costs : List ℕ) (at : ℕ → ℕ) (pay : ℕ → ℤ) (x : Allocation) : Type 0 where
  pub order : IsOrder (length costs) (slice_index costs) at
  pub players : length x.shares ≡ length costs
  pub shares : (k : ℕ) → k < length costs → share x (at k) ≡ neg_ℤ (pay k)
  pub scheme : IsScheme (length costs) (λ k. slice_index costs (at k)) pay x.den

-- ---- the search for a block

-- how many payments the cost at place l has to hold if a block begins at place i: those of the block and one
-- more, except at the end
abbrev pub size_of : ℕ → ℕ → ℕ → ℕ
size_of n i l = if nat_lt (l + 1) n then l + 2 - i else l + 1 - i

-- the term of place l: a rate r over m times the denominator
pub record IsTerm (n : ℕ) (c : ℕ → ℕ) (den paid : ℤ) (i l : ℕ) (m r : ℤ) : Type 0 where
  pub from : i ≤ l
  pub within : l < n
  pub size : m ≡ pos (size_of n i l)
  pub rate : r ≡ den *ℤ pos (c l) -ℤ paid

-- it is the least of all terms
pub record IsLeastTerm (n : ℕ) (c : ℕ → ℕ) (den paid : ℤ) (i l : ℕ) (m r : ℤ) : Type 0 where
  pub term : IsTerm n c den paid i l m r
  pub least : (j : ℕ) → i ≤ j → j < n → (pos (size_of n i j) *ℤ r) ≤ℤ (m *ℤ (den *ℤ pos (c j) -ℤ paid))

-- the payments over m times the denominator, and behind them as many new ones of rate r
pub record IsGrown (old : List ℤ) (m r : ℤ) (count : ℕ) (new : List ℤ) : Type 0 where
  pub long : length new ≡ length old + count
  pub before : (k : ℕ) → k < length old → slice_index_or new k (pos 0) ≡ slice_index_or old k (pos 0) *ℤ m
  pub block : (d : ℕ) → d < count → slice_index_or new (length old + d) (pos 0) ≡ r

-- payments at the places over a denominator, of the sizes of shares
pub record IsPayment (n : ℕ) (c : ℕ → ℕ) (pay : List ℤ) (den : ℤ) : Type 0 where
  pub long : length pay ≡ n
  pub common : den ≤ℤ pos (2 ^ 63)
  pub small : All (λ z. unsigned_abs z < 2 ^ 104) pay
  pub scheme : IsScheme n c (pay_at pay) den

-- the shares by player: minus the payment of the player's place
pub record IsByPlayer (n : ℕ) (at : ℕ → ℕ) (pay num : List ℤ) : Type 0 where
  pub long : length num ≡ n
  pub shares : (k : ℕ) → k < n → slice_index_or num (at k) (pos 0) ≡ neg_ℤ (pay_at pay k)
  pub small : All (λ z. unsigned_abs z < 2 ^ 110) num
