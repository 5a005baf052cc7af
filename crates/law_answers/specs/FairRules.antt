-- Rules that give shares to each game, and the four properties that the Shapley value alone has (Shapley 1953).
--
--   IsGameOf n g          a game of n players in which the empty coalition is worth nothing
--   IsSum a b g           each coalition is worth in the game g what it is in a and b together
--   HasSum a b x i        the share of player i in x is the sum of those in a and b
--   IsFairRule n rule     the four properties, for all games of n players
--   FairRulesAreShapley   a rule has them if and only if it gives each game its Shapley value
use Rattle.std.specs.Prelude.{◌≡◌, ◌↔◌, ℕ, ◌^◌, ◌<◌, pos, ◌+ℤ◌, ◌*ℤ◌}
use Rattle.definitions.specs.Games.{Game, Allocation, share, IsAllocation, IsEfficient}
use Rattle.definitions.specs.Players.{AddsNothing, AreInterchangeable}
use Rattle.definitions.specs.Shapley.{IsShapley}

abbrev pub IsGameOf : ℕ → Game → Type 0
IsGameOf n g = (g.players ≡ n) × (g.worth 0 ≡ pos 0)

abbrev pub IsSum : Game → Game → Game → Type 0
IsSum a b g = (s : ℕ) → s < 2 ^ g.players → g.worth s ≡ a.worth s +ℤ b.worth s

abbrev pub HasSum : Allocation → Allocation → Allocation → ℕ → Type 0
HasSum a b x i =
    share x i *ℤ (a.den *ℤ b.den) ≡ x.den *ℤ (share a i *ℤ b.den +ℤ share b i *ℤ a.den)

-- The shares of each game add to the worth of all, players that the game doesn't tell apart get the same, who adds
-- nothing gets nothing, and the shares in a sum of games are the sums of the shares.
pub record IsFairRule (n : ℕ) (rule : Game → Allocation) : Type 0 where
  pub shares : (g : Game) → IsGameOf n g → IsAllocation g (rule g)
  pub efficient : (g : Game) → IsGameOf n g → IsEfficient g (rule g)
  pub alike : (g : Game) (i j : ℕ) → IsGameOf n g → i < n → j < n → AreInterchangeable g i j
      → share (rule g) i ≡ share (rule g) j
  pub nothing : (g : Game) (i : ℕ) → IsGameOf n g → i < n → AddsNothing g i → share (rule g) i ≡ pos 0
  pub additive : (a b g : Game) (i : ℕ) → IsGameOf n a → IsGameOf n b → IsGameOf n g → IsSum a b g → i < n
      → HasSum (rule a) (rule b) (rule g) i

-- a rule has the four properties if and only if it gives each game its Shapley value
abbrev pub FairRulesAreShapley : Type 0
FairRulesAreShapley =
    (n : ℕ) (rule : Game → Allocation) → IsFairRule n rule ↔ ((g : Game) → IsGameOf n g → IsShapley g (rule g))
