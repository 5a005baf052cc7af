-- What a player gets when it adds more than before (strong monotonicity: Young 1985). Each law is the contract of a
-- function of this crate.
--
--   AddsNoLessThen g h i       player i adds to each coalition in h at least what it adds in g
--   WhoAddsMoreGetsNoLess      then its Shapley share in h is at least that in g
--   IsMonotonicRule n rule     efficient, symmetric and strongly monotonic, for all games of n players
--   MonotonicRulesAreShapley   a rule has the three properties if and only if it gives each game its Shapley value
use Rattle.std.specs.Prelude.{◌≡◌, ◌↔◌, ℕ, ◌+◌, ◌^◌, ◌<◌, false, ◌-ℤ◌, ◌*ℤ◌, ◌≤ℤ◌}
use Rattle.definitions.specs.Coalitions.{has_player, singleton}
use Rattle.definitions.specs.Games.{Game, Allocation, share, IsAllocation, IsEfficient}
use Rattle.definitions.specs.Players.{AreInterchangeable}
use Rattle.definitions.specs.Shapley.{IsShapley}
use Rattle.law_answers.specs.FairRules.{IsGameOf}

-- of the same players; player i adds to each coalition without it in h at least what it adds in g
pub record AddsNoLessThen (g h : Game) (i : ℕ) : Type 0 where
  pub players : h.players ≡ g.players
  pub adds : (s : ℕ) → s < 2 ^ g.players → has_player s i ≡ false
      → (g.worth (s + singleton i) -ℤ g.worth s) ≤ℤ (h.worth (s + singleton i) -ℤ h.worth s)

-- then player i gets in h, by the Shapley value, at least what it gets in g
abbrev pub WhoAddsMoreGetsNoLess : Type 0
WhoAddsMoreGetsNoLess =
    (g h : Game) (x y : Allocation) (i : ℕ) → AddsNoLessThen g h i → IsShapley g x → IsShapley h y →
    i < g.players → (share x i *ℤ y.den) ≤ℤ (share y i *ℤ x.den)

-- The shares of each game add to the worth of all, players that the game doesn't tell apart get the same, and who adds
-- at least what it added in another game gets at least what it got there.
pub record IsMonotonicRule (n : ℕ) (rule : Game → Allocation) : Type 0 where
  pub shares : (g : Game) → IsGameOf n g → IsAllocation g (rule g)
  pub efficient : (g : Game) → IsGameOf n g → IsEfficient g (rule g)
  pub alike : (g : Game) (i j : ℕ) → IsGameOf n g → i < n → j < n → AreInterchangeable g i j
      → share (rule g) i ≡ share (rule g) j
  pub monotonic : (g h : Game) (i : ℕ) → IsGameOf n g → IsGameOf n h → i < n → AddsNoLessThen g h i
      → (share (rule g) i *ℤ (rule h).den) ≤ℤ (share (rule h) i *ℤ (rule g).den)

abbrev pub MonotonicRulesAreShapley : Type 0
MonotonicRulesAreShapley =
    (n : ℕ) (rule : Game → Allocation) → IsMonotonicRule n rule ↔ ((g : Game) → IsGameOf n g → IsShapley g (rule g))
