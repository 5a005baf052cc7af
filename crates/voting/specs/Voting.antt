-- Weighted voting games: a quota and weights.
--
--   Voting        a quota and weights
--   voting        these parts together
--   IsVoting      1 to 32 weights that sum to at most 1,000, and a quota from 1 to their sum
--   voting_game   the game of a quota and weights
--   HavePlayers   there are 1 to 32 weights
--   AreNumbers    the quota and each weight are in range
--   IsQuota       the weights sum to at most 1,000, and the quota is from 1 to their sum
--   IsRefused     why a quota and weights make no game
use Rattle.std.specs.Prelude.{ℕ, ◌^◌, ◌<◌, ◌≤◌, List, length, All, ℤ, pos, ◌≤ℤ◌}
use Rattle.std.specs.Prelude.{sum, unsigned_abs}
use Rattle.std.specs.List.{sum_by}
use Rattle.definitions.specs.Games.{Game}
use Rattle.definitions.specs.Classes.{voting_worth}
use Rattle.orders.specs.Numbers.{IsNumber}
use Rattle.voting.specs.declared.game.VotingFault.{VotingFault}
use Rattle.voting.specs.declared.game.VotingFault.TheVariants.{Players, Number, Quota, Memory}

-- a quota, and the weight of each player
pub record Voting : Type 0 where
  pub quota : ℕ
  pub weights : List ℕ

abbrev pub voting : ℕ → List ℕ → Voting
voting quota weights = record { quota = quota; weights = weights }

pub record IsVoting (g : Voting) : Type 0 where
  pub some : 1 ≤ length g.weights
  pub few : length g.weights ≤ 32
  pub small : All (λ w. w < 2 ^ 40) g.weights
  pub light : sum g.weights ≤ 1000
  pub positive : 1 ≤ g.quota
  pub reached : g.quota ≤ sum g.weights

abbrev pub voting_game : Voting → Game
voting_game g = record { players = length g.weights; worth = voting_worth g.quota g.weights }

-- ---- what the constructor refuses

abbrev pub HavePlayers : List ℤ → Type 0
HavePlayers weights = (1 ≤ length weights) × (length weights ≤ 32)

-- the quota and each weight are from 0 to below 2 ^ 40
abbrev pub AreNumbers : ℤ → List ℤ → Type 0
AreNumbers quota weights = IsNumber quota × All IsNumber weights

pub record IsQuota (quota : ℤ) (weights : List ℤ) : Type 0 where
  pub light : sum_by unsigned_abs weights ≤ 1000
  pub positive : pos 1 ≤ℤ quota
  pub reached : quota ≤ℤ pos (sum_by unsigned_abs weights)

-- why a quota and weights make no game: the first of the causes that applies
abbrev pub IsRefused : ℤ → List ℤ → VotingFault → Type 0
IsRefused quota weights Players = ¬ HavePlayers weights
IsRefused quota weights Number = HavePlayers weights × (¬ AreNumbers quota weights)
IsRefused quota weights Quota = HavePlayers weights × AreNumbers quota weights × (¬ IsQuota quota weights)
IsRefused quota weights Memory = HavePlayers weights × AreNumbers quota weights × IsQuota quota weights
