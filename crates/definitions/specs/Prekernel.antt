-- The surplus of one player against another, and the prekernel.
-- Source: Davis and Maschler 1965; Maschler, Peleg and Shapley 1972; Peleg and Sudhölter, Introduction to the
-- Theory of Cooperative Games.
--
--   holds_without i j s     the coalition s holds i and lacks j
--   IsSurplus g x i j m     m is the greatest excess over the coalitions that hold i and lack j, over the denominator
--   AreBalanced g x i j     the surplus of i against j is that of j against i
--   InPrekernel g x         an efficient allocation at which every two players are balanced
--   IsEarlierPair a b i j   pairs compare by the first player and then by the second
--   IsFirstUnbalanced       the first pair of players that aren't balanced
use Rattle.std.specs.Prelude.{◌≡◌, ◌≢◌, ◌⊎◌, ℕ, ◌^◌, ◌<◌, Bool, ◌&&◌, not, IsTrue}
use Rattle.std.specs.Prelude.{ℤ}
use Rattle.definitions.specs.Sums.{IsGreatest}
use Rattle.definitions.specs.Coalitions.{has_player}
use Rattle.definitions.specs.Games.{Game, Allocation, excess, IsAllocation, IsEfficient}

abbrev pub holds_without : ℕ → ℕ → ℕ → Bool
holds_without i j s = has_player s i && not (has_player s j)

-- the most that a coalition with i and without j could do better by itself, over the denominator
abbrev pub IsSurplus : Game → Allocation → ℕ → ℕ → ℤ → Type 0
IsSurplus g x i j m = IsGreatest (λ s. (s < 2 ^ g.players) × IsTrue (holds_without i j s)) (excess g x) m

-- one number is the surplus of each of two players against the other
abbrev pub AreBalanced : Game → Allocation → ℕ → ℕ → Type 0
AreBalanced g x i j = (m : ℤ) × IsSurplus g x i j m × IsSurplus g x j i m

abbrev pub InPrekernel : Game → Allocation → Type 0
InPrekernel g x =
    IsAllocation g x × IsEfficient g x × ((i j : ℕ) → i < g.players → j < g.players → i ≢ j → AreBalanced g x i j)

-- the pair of a and b comes before that of i and j, by the first player and then by the second
abbrev pub IsEarlierPair : ℕ → ℕ → ℕ → ℕ → Type 0
IsEarlierPair a b i j = (a < i) ⊎ ((a ≡ i) × (b < j))

-- i and j are the first players, i before j, that aren't balanced
pub record IsFirstUnbalanced (g : Game) (x : Allocation) (i j : ℕ) : Type 0 where
  pub ordered : i < j
  pub player : j < g.players
  pub unbalanced : ¬ AreBalanced g x i j
  pub first : (a b : ℕ) → a < b → b < g.players → IsEarlierPair a b i j → AreBalanced g x a b
