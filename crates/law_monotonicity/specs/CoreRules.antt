-- Rules that give a core point wherever there is one, and what somebody gets if only its own coalitions grow (Young
-- 1985). Each law is the contract of a function of this crate.
--
--   GrowsAround g h i               no coalition with i is worth less in h than in g, and each other what it was
--   LosesInTheCore g h i            the game grows around i, both have core points, and i gets less at each one of h
--   SomebodyLosesInTheCore          there are such games of any number of players from five on
--   PicksCorePoints n rule          if a game of n players has core points, the rule gives one
--   IsCoalitionMonotonic n rule     if a coalition grows, and both games have core points, no member gets less
--   NoCoreRuleIsMonotonic           from four players on no rule is both (of four: Housman and Clark 1998)
--   WhoIsInAllThatGrowsGetsNoLess   but the Shapley value gives no less to a player around whom a game grows
use Rattle.std.specs.Prelude.{◌≡◌, ℕ, ◌^◌, ◌<◌, ◌≤◌, true}
use Rattle.std.specs.Prelude.{false, ℤ, pos, ◌*ℤ◌, ◌<ℤ◌, ◌≤ℤ◌}
use Rattle.definitions.specs.Coalitions.{has_player}
use Rattle.definitions.specs.Games.{Game, Allocation, share, InCore}
use Rattle.definitions.specs.Shapley.{IsShapley}
use Rattle.law_answers.specs.FairRules.{IsGameOf}
use Rattle.law_monotonicity.specs.Growth.{GroupGrows}

-- each coalition with player i is worth in h at least what it is in g, and each coalition without it what it was
pub record GrowsAround (g h : Game) (i : ℕ) : Type 0 where
  pub players : h.players ≡ g.players
  pub around : (s : ℕ) → s < 2 ^ g.players → has_player s i ≡ true → g.worth s ≤ℤ h.worth s
  pub apart : (s : ℕ) → s < 2 ^ g.players → has_player s i ≡ false → h.worth s ≡ g.worth s

-- the game grows around player i, both games have core points, and i gets less at each of the second than at each of
-- the first
abbrev pub LosesInTheCore : Game → Game → ℕ → Type 0
LosesInTheCore g h i =
    GrowsAround g h i
    × (i < g.players)
    × ((z : Allocation) × InCore g z)
    × ((z : Allocation) × InCore h z)
    × ((x y : Allocation) → InCore g x → InCore h y → (share y i *ℤ x.den) <ℤ (share x i *ℤ y.den))

abbrev pub SomebodyLosesInTheCore : Type 0
SomebodyLosesInTheCore =
    (n : ℕ) → 5 ≤ n → (g : Game) × (h : Game) × (i : ℕ) × IsGameOf n g × IsGameOf n h × LosesInTheCore g h i

-- if the core of a game of n players isn't empty, the rule's shares are in it, like those of the nucleolus
abbrev pub PicksCorePoints : ℕ → (Game → Allocation) → Type 0
PicksCorePoints n rule = (g : Game) (z : Allocation) → IsGameOf n g → InCore g z → InCore g (rule g)

-- if one coalition of n players is worth more, nothing else changes, and there are core points before and after,
-- the rule gives each of its members no less
abbrev pub IsCoalitionMonotonic : ℕ → (Game → Allocation) → Type 0
IsCoalitionMonotonic n rule =
    (d : ℤ) (t : ℕ) (g h : Game) (a b : Allocation) (i : ℕ) → IsGameOf n g → InCore g a → InCore h b →
    pos 0 ≤ℤ d → t < 2 ^ n → GroupGrows d t g h → i < n → has_player t i ≡ true →
    (share (rule g) i *ℤ (rule h).den) ≤ℤ (share (rule h) i *ℤ (rule g).den)

-- from four players on no rule picks core points and is monotonic (of five and more Young 1985, of four Housman and
-- Clark 1998)
abbrev pub NoCoreRuleIsMonotonic : Type 0
NoCoreRuleIsMonotonic =
    (n : ℕ) (rule : Game → Allocation) → 4 ≤ n → PicksCorePoints n rule → ¬ IsCoalitionMonotonic n rule

-- if a game grows around a player, the Shapley value gives that player no less
abbrev pub WhoIsInAllThatGrowsGetsNoLess : Type 0
WhoIsInAllThatGrowsGetsNoLess =
    (g h : Game) (x y : Allocation) (i : ℕ) → GrowsAround g h i → IsShapley g x → IsShapley h y → i < g.players →
    (share x i *ℤ y.den) ≤ℤ (share y i *ℤ x.den)
