-- Shapley shares if others join the players of a game. The first n players are worth among themselves what they are in
-- the game of all. (The numbers of players don't matter: `shapley_is_anonymous`.) Each law is the contract of a
-- function of this crate.
-- Sources: Sprumont 1990; Myerson 1980; Peleg and Sudhölter, Introduction to the Theory of Cooperative Games.
--
--   first_players n g              the game of the first n players of g
--   NewcomersGiveNobodyLess        if a game is convex, the others' joining gives none of the first players less; if
--                                  worths are minus costs, nobody pays more
--   WhoAddNothingCanGo             if the others add nothing, the first players get the same without them
--   without_player j g             the game in which player j adds nothing
--   LoseAlike x y z i j            what i has less at y than at x is what j has less at z
--   ContributionsAreBalanced       what i has less if j never came is what j has less if i never came
--   AreBalancedShares g x          shares for each coalition: its members share what it is worth, and any two lose
--                                  alike if the other leaves
--   BalancedSharesAreShapley       then the shares of all players are the Shapley value
--   BalancedSharesExist            each game has such shares
--   agreement                      two who have to agree, about 2
--   halves, all_to_one             shares of 1 and 1, and of 2 and 0
--   nothing_each                   shares of 0 and 0
--   TwoWhoAgree                    with halves both lose alike; if one takes all, they don't
use Rattle.std.specs.Prelude.{◌≡◌, ◌≢◌, ℕ, ◌-◌, ◌^◌, ◌<◌, ◌≤◌, true, nat_eq, [], ◌∷◌, pos, ◌-ℤ◌, ◌*ℤ◌, ◌≤ℤ◌}
use Rattle.std.specs.Prelude.{if◌then◌else◌}
use Rattle.definitions.specs.Classes.{table_worth}
use Rattle.definitions.specs.Coalitions.{has_player, singleton, grand_coalition}
use Rattle.definitions.specs.Convexity.{IsConvex}
use Rattle.definitions.specs.Games.{Game, Allocation, share, amount, IsAllocation}
use Rattle.definitions.specs.Players.{AddsNothing}
use Rattle.definitions.specs.Shapley.{IsShapley}

-- the coalitions of the first n players are the masks below 2^n
abbrev pub first_players : ℕ → Game → Game
first_players n g = record { players = n; worth = g.worth }

-- the shares of the first players in each of these games grow with the number of players (Sprumont 1990: a scheme that
-- is population monotonic)
abbrev pub NewcomersGiveNobodyLess : Type 0
NewcomersGiveNobodyLess =
    (n : ℕ) (g : Game) (x y : Allocation) (i : ℕ) → n ≤ g.players → IsConvex g → IsShapley (first_players n g) x →
    IsShapley g y → i < n → (share x i *ℤ y.den) ≤ℤ (share y i *ℤ x.den)

abbrev pub WhoAddNothingCanGo : Type 0
WhoAddNothingCanGo =
    (n : ℕ) (g : Game) (x y : Allocation) (i : ℕ) → n ≤ g.players →
    ((j : ℕ) → n ≤ j → j < g.players → AddsNothing g j) → IsShapley (first_players n g) x → IsShapley g y →
    i < n → share x i *ℤ y.den ≡ share y i *ℤ x.den

-- each coalition is worth what its members are without player j, who so can go
abbrev pub without_player : ℕ → Game → Game
without_player j g = record {
  players = g.players;
  worth = λ s. if has_player s j then g.worth (s - singleton j) else g.worth s;
}

-- over the denominators of all three
abbrev pub LoseAlike : Allocation → Allocation → Allocation → ℕ → ℕ → Type 0
LoseAlike x y z i j =
    (share x i *ℤ y.den -ℤ share y i *ℤ x.den) *ℤ z.den ≡ (share x j *ℤ z.den -ℤ share z j *ℤ x.den) *ℤ y.den

-- Myerson 1980
abbrev pub ContributionsAreBalanced : Type 0
ContributionsAreBalanced =
    (g : Game) (x y z : Allocation) (i j : ℕ) → i < g.players → j < g.players → i ≢ j → IsShapley g x →
    IsShapley (without_player j g) y → IsShapley (without_player i g) z → LoseAlike x y z i j

-- ---- and only Shapley's are so

-- x(s) are the shares if only the members of s have come, of which those of the members count
pub record AreBalancedShares (g : Game) (x : ℕ → Allocation) : Type 0 where
  pub shares : (s : ℕ) → s < 2 ^ g.players → IsAllocation g (x s)
  pub efficient : (s : ℕ) → s < 2 ^ g.players → amount (x s) s ≡ (x s).den *ℤ g.worth s
  pub balanced : (s i j : ℕ) → s < 2 ^ g.players → has_player s i ≡ true → has_player s j ≡ true → i ≢ j
      → LoseAlike (x s) (x (s - singleton j)) (x (s - singleton i)) i j

abbrev pub BalancedSharesAreShapley : Type 0
BalancedSharesAreShapley =
    (g : Game) (x : ℕ → Allocation) → AreBalancedShares g x → IsShapley g (x (grand_coalition g.players))

-- if the empty coalition is worth nothing
abbrev pub BalancedSharesExist : Type 0
BalancedSharesExist = (g : Game) → g.worth 0 ≡ pos 0 → (x : ℕ → Allocation) × AreBalancedShares g x

-- ---- two players

-- alone each is worth nothing
abbrev pub agreement : Game
agreement = record { players = 2; worth = table_worth (pos 0 ∷ (pos 0 ∷ (pos 2 ∷ []))) }

abbrev pub halves : Allocation
halves = record { shares = pos 1 ∷ (pos 1 ∷ []); den = pos 1 }

abbrev pub all_to_one : Allocation
all_to_one = record { shares = pos 2 ∷ (pos 0 ∷ []); den = pos 1 }

abbrev pub nothing_each : Allocation
nothing_each = record { shares = pos 0 ∷ (pos 0 ∷ []); den = pos 1 }

-- without the second both are worth nothing, and so is the first alone; with halves each loses 1 if the other leaves,
-- but who has all loses 2 and the other nothing
abbrev pub TwoWhoAgree : Type 0
TwoWhoAgree =
    ((without_player 1 agreement).worth 3 ≡ pos 0)
    × ((first_players 1 agreement).worth 1 ≡ pos 0)
    × LoseAlike halves nothing_each nothing_each 0 1
    × (¬ LoseAlike all_to_one nothing_each nothing_each 0 1)
    × (¬ AreBalancedShares agreement (λ s. if nat_eq s 3 then all_to_one else nothing_each))
