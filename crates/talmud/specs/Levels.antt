-- The levels that certify the shares of the Talmud rule: one for each claim of half players, who get half of their
-- claim, and one for the others.
--
--   single, others            a player alone, and all but that player, by the player's place in an order
--   key_of                    the one of the two that settles a player who is no half player
--   with_keys, with_both      the coalitions of some places, in mask order
--   IsHalfEnd                 where the half players of one claim end
--   IsHalfLevel, AreHalves    their level, and those of all claims of half players, ascending
--   IsRestLevel               the level of the players who aren't half players
--   AreLevels                 all levels
--   IsHalfOrder               an order of the players by their cut claims, in which the half players are the first
--   IsOfBoth, IsOfKeys        the pairs of a level
--   HoldsHalf, HoldHalves, HoldsRest, HoldAll   the same levels, by what their lists hold
--   AreRuleLevels             all levels, in such an order
use Rattle.std.specs.Prelude.{◌≡◌, ◌≢◌, ◌⊎◌, ◌++◌, ℕ, zero, suc, ◌+◌, ◌-◌, ◌<◌}
use Rattle.std.specs.Prelude.{◌≤◌, Bool, List, []}
use Rattle.std.specs.Prelude.{◌∷◌, length, ℤ, pos, ◌-ℤ◌, ◌*ℤ◌, ◌≤ℤ◌, neg_ℤ, if◌then◌else◌}
use Rattle.definitions.specs.Coalitions.{singleton, grand_coalition}
use Rattle.definitions.specs.Games.{Allocation, share}
use Rattle.definitions.specs.Certificates.{Level}
use Rattle.orders.specs.Orders.{IsOrder}
use Rattle.kohlberg.specs.Pairs.{with_pair, AreExactly}
use Rattle.talmud.specs.Rule.{cut, loss, is_little, part}

-- the player at place j alone, and all but that player
abbrev pub single : (ℕ → ℕ) → ℕ → ℕ
single at j = singleton (at j)

abbrev pub others : ℕ → (ℕ → ℕ) → ℕ → ℕ
others n at j = grand_coalition n - singleton (at j)

-- of the two, the first if the estate is at most half of the claims
abbrev pub key_of : ℕ → (ℕ → ℕ) → Bool → ℕ → ℕ
key_of n at gain j = if gain then single at j else others n at j

-- the coalitions of b places from place i, each with weight 1, in mask order
abbrev pub with_keys : (ℕ → ℕ) → ℕ → ℕ → List (ℕ × ℤ)
with_keys key i zero = []
with_keys key i (suc b) = with_pair (key (i + b)) (pos 1) (with_keys key i b)

-- the same with both coalitions of each place
abbrev pub with_both : ℕ → (ℕ → ℕ) → ℕ → ℕ → List (ℕ × ℤ)
with_both n at i zero = []
with_both n at i (suc b) =
    with_pair (others n at (i + b)) (pos 1) (with_pair (single at (i + b)) (pos 1) (with_both n at i b))

-- The half players from place i up to place k are all of the first m with their claim. Of two players the first
-- stands for both: the other's two coalitions are the same.
pub record IsHalfEnd (n : ℕ) (claim at : ℕ → ℕ) (m i k : ℕ) : Type 0 where
  pub some : i < k
  pub within : k ≤ m
  pub same : (j : ℕ) → i ≤ j → j < k → claim (at j) ≡ claim (at i)
  pub whole : 3 ≤ n → k < m → claim (at k) ≢ claim (at i)
  pub pair : n ≡ 2 → k ≡ i + 1

-- their level, with minus half of the claim as excess
pub record IsHalfLevel (n : ℕ) (claim at : ℕ → ℕ) (m i k : ℕ) (l : Level) : Type 0 where
  pub two : i + 2 ≤ n
  pub end : IsHalfEnd n claim at m i k
  pub fraction : pos 1 ≤ℤ l.excess_den
  pub excess : l.excess_num *ℤ pos 2 ≡ neg_ℤ (pos (claim (at i))) *ℤ l.excess_den
  pub coalitions : l.coalitions ≡ with_both n at i (k - i)
  pub earlier : l.earlier ≡ []
  pub bounds : l.bounds ≡ []
  pub total : l.total ≡ pos (k - i)

-- the half levels from place i up to place k
abbrev pub AreHalves : ℕ → (ℕ → ℕ) → (ℕ → ℕ) → ℕ → ℕ → List Level → ℕ → Type 0
AreHalves n claim at m i [] k = i ≡ k
AreHalves n claim at m i (l ∷ ls) k = (h : ℕ) × IsHalfLevel n claim at m i h l × AreHalves n claim at m h ls k

-- the level of the players from place m on, who get, or lose, t over a denominator
pub record IsRestLevel (n : ℕ) (at : ℕ → ℕ) (m : ℕ) (gain : Bool) (t den : ℤ) (l : Level) : Type 0 where
  pub two : m + 2 ≤ n
  pub fraction : pos 1 ≤ℤ l.excess_den
  pub excess : l.excess_num *ℤ den ≡ neg_ℤ t *ℤ l.excess_den
  pub coalitions : l.coalitions ≡ with_keys (key_of n at gain) m (n - m)
  pub earlier : l.earlier ≡ with_keys (key_of n at gain) 0 m
  pub bounds : l.bounds ≡ []
  pub total : l.total ≡ (if gain then pos 1 else pos n -ℤ pos 1)

-- half levels while two players are left, and behind all of them the level of the others, if they are two at least
abbrev pub AreLevels : ℕ → (ℕ → ℕ) → (ℕ → ℕ) → ℕ → Bool → ℤ → ℤ → List Level → Type 0
AreLevels n claim at m gain t den levels =
    ((k : ℕ) × AreHalves n claim at m 0 levels k × (n ≤ k + 1))
    ⊎ ((ls : List Level) × (l : Level) × (levels ≡ ls ++ l ∷ []) × AreHalves n claim at m 0 ls m
    × IsRestLevel n at m gain t den l)

-- an order by the cut claims, in which the first m get half of theirs, and of the others each gets, or loses, t
pub record IsHalfOrder (estate : ℕ) (claims : List ℕ) (x : Allocation) (at : ℕ → ℕ) (m : ℕ) (t : ℤ) : Type 0 where
  pub order : IsOrder (length claims) (cut estate claims) at
  pub within : m ≤ length claims
  pub half : (j : ℕ) → j < m → share x (at j) ≡ loss estate claims x (at j)
  pub not_half : (j : ℕ) → m ≤ j → j < length claims → share x (at j) ≢ loss estate claims x (at j)
  pub rest : (j : ℕ) → m ≤ j → j < length claims → part estate claims x (at j) ≡ t

-- ---- the same levels, by what their lists hold

-- a player at a place from i up to k alone, or all but that player, with weight 1
abbrev pub IsOfBoth : ℕ → (ℕ → ℕ) → ℕ → ℕ → ℕ → ℤ → Type 0
IsOfBoth n at i k s w = ((j : ℕ) × (i ≤ j) × (j < k) × ((s ≡ single at j) ⊎ (s ≡ others n at j))) × (w ≡ pos 1)

-- the key of a place from i up to k, with weight 1
abbrev pub IsOfKeys : (ℕ → ℕ) → ℕ → ℕ → ℕ → ℤ → Type 0
IsOfKeys key i k s w = ((j : ℕ) × (i ≤ j) × (j < k) × (s ≡ key j)) × (w ≡ pos 1)

-- the level of the half players from place i up to place k, with minus half of their claim as excess
pub record HoldsHalf (n : ℕ) (claim at : ℕ → ℕ) (m i k : ℕ) (l : Level) : Type 0 where
  pub two : i + 2 ≤ n
  pub end : IsHalfEnd n claim at m i k
  pub fraction : pos 1 ≤ℤ l.excess_den
  pub excess : l.excess_num *ℤ pos 2 ≡ neg_ℤ (pos (claim (at i))) *ℤ l.excess_den
  pub coalitions : AreExactly (IsOfBoth n at i k) l.coalitions
  pub earlier : l.earlier ≡ []
  pub bounds : l.bounds ≡ []
  pub total : l.total ≡ pos (k - i)

-- the half levels from place i up to place k
abbrev pub HoldHalves : ℕ → (ℕ → ℕ) → (ℕ → ℕ) → ℕ → ℕ → List Level → ℕ → Type 0
HoldHalves n claim at m i [] k = i ≡ k
HoldHalves n claim at m i (l ∷ ls) k = (h : ℕ) × HoldsHalf n claim at m i h l × HoldHalves n claim at m h ls k

-- the level of the players from place m on, who get, or lose, t over a denominator
pub record HoldsRest (n : ℕ) (at : ℕ → ℕ) (m : ℕ) (gain : Bool) (t den : ℤ) (l : Level) : Type 0 where
  pub two : m + 2 ≤ n
  pub fraction : pos 1 ≤ℤ l.excess_den
  pub excess : l.excess_num *ℤ den ≡ neg_ℤ t *ℤ l.excess_den
  pub coalitions : AreExactly (IsOfKeys (key_of n at gain) m n) l.coalitions
  pub earlier : AreExactly (IsOfKeys (key_of n at gain) 0 m) l.earlier
  pub bounds : l.bounds ≡ []
  pub total : l.total ≡ (if gain then pos 1 else pos n -ℤ pos 1)

-- half levels while two players are left, and behind all of them the level of the others, if they are two at least
abbrev pub HoldAll : ℕ → (ℕ → ℕ) → (ℕ → ℕ) → ℕ → Bool → ℤ → ℤ → List Level → Type 0
HoldAll n claim at m gain t den levels =
    ((k : ℕ) × HoldHalves n claim at m 0 levels k × (n ≤ k + 1))
    ⊎ ((ls : List Level) × (l : Level) × (levels ≡ ls ++ l ∷ []) × HoldHalves n claim at m 0 ls m
    × HoldsRest n at m gain t den l)

-- the levels of the rule, for shares over a denominator
abbrev pub AreRuleLevels : ℕ → List ℕ → Allocation → List Level → Type 0
AreRuleLevels estate claims x levels =
    (at : ℕ → ℕ) × (m : ℕ) × (t : ℤ) × IsHalfOrder estate claims x at m t
    × HoldAll (length claims) (cut estate claims) at m (is_little estate claims) t x.den levels
