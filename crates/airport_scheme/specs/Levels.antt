-- The levels that certify Littlechild's payments, one for each block of places that pay the same.
--
--   with_others, front_pair   pairs of a coalition and a weight, in mask order
--   IsRunEnd                  where a block ends
--   IsBlock                   the level of a block
--   IsChain, AreLevels        the levels of the blocks
--   IsOfBlock, IsInFront      the pairs of the level of a block
--   IsBlockLevel, AreBlockLevels   the level of a block, and those of the blocks, by what their lists hold
--   AreSchemeLevels           the levels of the scheme, for shares that it gives
use Rattle.std.specs.Prelude.{◌≡◌, ◌⊎◌, ℕ, zero, suc, ◌+◌, ◌-◌, ◌<◌, ◌≤◌, Bool}
use Rattle.std.specs.Prelude.{nat_lt, List, [], ◌∷◌, length}
use Rattle.std.specs.Prelude.{ℤ, pos, negsuc, ◌-ℤ◌, ◌*ℤ◌, ◌<ℤ◌, ◌≤ℤ◌, neg_ℤ, if◌then◌else◌}
use Rattle.definitions.specs.Coalitions.{singleton, grand_coalition}
use Rattle.definitions.specs.Games.{Allocation}
use Rattle.definitions.specs.Certificates.{Level}
use Rattle.kohlberg.specs.Pairs.{with_pair, AreExactly}
use Rattle.orders.specs.Orders.{front}
use Rattle.airport_scheme.specs.Scheme.{IsPaid}

-- all but one, for each of b players from place i, put among pairs
abbrev pub with_others : ℕ → (ℕ → ℕ) → List (ℕ × ℤ) → ℕ → ℕ → List (ℕ × ℤ)
with_others n at ps i zero = ps
with_others n at ps i (suc b) =
    with_pair (grand_coalition n - singleton (at (i + b))) (pos 1) (with_others n at ps i b)

-- the first k players with a weight, or nothing
abbrev pub front_pair : (ℕ → ℕ) → ℕ → ℤ → Bool → List (ℕ × ℤ)
front_pair at k w given = if given then (front at k, w) ∷ [] else []

-- the block that begins at place i ends at place k
pub record IsRunEnd (n : ℕ) (pay : ℕ → ℤ) (i k : ℕ) : Type 0 where
  pub some : i < k
  pub within : k ≤ n
  pub same : (j : ℕ) → i ≤ j → j < k → pay j ≡ pay i
  pub until : k < n → pay k ≡ pay i → ⊥

-- the level of the block from place i up to place k, where all pay the same and the next pays more
pub record IsBlock (n : ℕ) (at : ℕ → ℕ) (pay : ℕ → ℤ) (den : ℤ) (i k : ℕ) (l : Level) : Type 0 where
  pub two : i + 2 ≤ n
  pub some : i < k
  pub within : k ≤ n
  pub same : (j : ℕ) → i ≤ j → j < k → pay j ≡ pay i
  pub until : k < n → pay i <ℤ pay k
  pub fraction : pos 1 ≤ℤ l.excess_den
  pub excess : neg_ℤ (pay i) *ℤ l.excess_den ≡ l.excess_num *ℤ den
  pub coalitions : l.coalitions ≡ with_others n at (front_pair at k (pos 1) (nat_lt k n)) i (k - i)
  pub earlier : l.earlier ≡ front_pair at i (negsuc 0) (nat_lt 0 i)
  pub bounds : l.bounds ≡ []
  pub total : l.total ≡ (if nat_lt k n then pos (k - i) else pos (k - i) -ℤ pos 1)

-- the levels of the blocks from place i up to place k
abbrev pub IsChain : ℕ → (ℕ → ℕ) → (ℕ → ℤ) → ℤ → ℕ → List Level → ℕ → Type 0
IsChain n at pay den i [] k = i ≡ k
IsChain n at pay den i (l ∷ ls) k = (m : ℕ) × IsBlock n at pay den i m l × IsChain n at pay den m ls k

-- the levels of all blocks that begin while two players are left
abbrev pub AreLevels : ℕ → (ℕ → ℕ) → (ℕ → ℤ) → ℤ → List Level → Type 0
AreLevels n at pay den levels = (k : ℕ) × IsChain n at pay den 0 levels k × (n ≤ k + 1)

-- ---- the same levels, by what their lists hold

-- all but one of the players of the block from place i up to place k, or the first k players if others follow, with
-- weight 1
abbrev pub IsOfBlock : ℕ → (ℕ → ℕ) → ℕ → ℕ → ℕ → ℤ → Type 0
IsOfBlock n at i k s w =
    (((j : ℕ) × (i ≤ j) × (j < k) × (s ≡ grand_coalition n - singleton (at j))) ⊎ ((k < n) × (s ≡ front at k)))
    × (w ≡ pos 1)

-- the first i players, if any, with weight -1
abbrev pub IsInFront : (ℕ → ℕ) → ℕ → ℕ → ℤ → Type 0
IsInFront at i s w = (0 < i) × (s ≡ front at i) × (w ≡ negsuc 0)

-- the level of the block from place i up to place k: all of it pays the same and the next pays more; the excess is
-- minus that payment over the denominator, and the total is the number of its players, or one less if it is the last
pub record IsBlockLevel (n : ℕ) (at : ℕ → ℕ) (pay : ℕ → ℤ) (den : ℤ) (i k : ℕ) (l : Level) : Type 0 where
  pub two : i + 2 ≤ n
  pub some : i < k
  pub within : k ≤ n
  pub same : (j : ℕ) → i ≤ j → j < k → pay j ≡ pay i
  pub until : k < n → pay i <ℤ pay k
  pub fraction : pos 1 ≤ℤ l.excess_den
  pub excess : neg_ℤ (pay i) *ℤ l.excess_den ≡ l.excess_num *ℤ den
  pub coalitions : AreExactly (IsOfBlock n at i k) l.coalitions
  pub earlier : AreExactly (IsInFront at i) l.earlier
  pub bounds : l.bounds ≡ []
  pub total : l.total ≡ (if nat_lt k n then pos (k - i) else pos (k - i) -ℤ pos 1)

-- the levels of the blocks from place i up to place k
abbrev pub AreBlockLevels : ℕ → (ℕ → ℕ) → (ℕ → ℤ) → ℤ → ℕ → List Level → ℕ → Type 0
AreBlockLevels n at pay den i [] k = i ≡ k
AreBlockLevels n at pay den i (l ∷ ls) k =
    (m : ℕ) × IsBlockLevel n at pay den i m l × AreBlockLevels n at pay den m ls k

-- the levels of the scheme's payments, for the shares that give each player minus its payment: those of all blocks
-- that begin while two players are left
abbrev pub AreSchemeLevels : List ℕ → (ℕ → ℕ) → Allocation → List Level → Type 0
AreSchemeLevels costs at x levels =
    (pay : ℕ → ℤ) × IsPaid costs at pay x
    × ((k : ℕ) × AreBlockLevels (length costs) at pay x.den 0 levels k × (length costs ≤ k + 1))
