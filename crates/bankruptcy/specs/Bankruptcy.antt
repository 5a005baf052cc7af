-- Bankruptcy games: an estate, and claims to it.
--
--   Bankruptcy        an estate and claims
--   bankruptcy        these parts together
--   IsBankruptcy      1 to 64 claims, and an estate of at most their sum
--   bankruptcy_game   the game of an estate and claims
--   HavePlayers       there are 1 to 64 claims
--   AreNumbers        the estate and each claim are in range
--   IsAboveClaims     the estate is above the sum of the claims
--   IsRefused         why an estate and claims make no game
use Rattle.std.specs.Prelude.{ℕ, ◌^◌, ◌<◌, ◌≤◌, List, length, All, ℤ, pos, ◌<ℤ◌}
use Rattle.std.specs.Prelude.{sum, unsigned_abs}
use Rattle.std.specs.List.{sum_by}
use Rattle.definitions.specs.Games.{Game}
use Rattle.definitions.specs.Classes.{bankruptcy_worth}
use Rattle.orders.specs.Numbers.{IsNumber}
use Rattle.bankruptcy.specs.declared.game.BankruptcyFault.{BankruptcyFault}
use Rattle.bankruptcy.specs.declared.game.BankruptcyFault.TheVariants.{Players, Number, Estate, Memory}

-- an estate, and the claim of each player
pub record Bankruptcy : Type 0 where
  pub estate : ℕ
  pub claims : List ℕ

abbrev pub bankruptcy : ℕ → List ℕ → Bankruptcy
bankruptcy estate claims = record { estate = estate; claims = claims }

-- 1 to 64 claims below 2 ^ 40, and an estate below 2 ^ 40 of at most their sum
pub record IsBankruptcy (b : Bankruptcy) : Type 0 where
  pub some : 1 ≤ length b.claims
  pub few : length b.claims ≤ 64
  pub small : All (λ c. c < 2 ^ 40) b.claims
  pub estate_small : b.estate < 2 ^ 40
  pub enough : b.estate ≤ sum b.claims

abbrev pub bankruptcy_game : Bankruptcy → Game
bankruptcy_game b = record { players = length b.claims; worth = bankruptcy_worth b.estate b.claims }

-- ---- what the constructor refuses

abbrev pub HavePlayers : List ℤ → Type 0
HavePlayers claims = (1 ≤ length claims) × (length claims ≤ 64)

-- the estate and each claim are from 0 to below 2 ^ 40
abbrev pub AreNumbers : ℤ → List ℤ → Type 0
AreNumbers estate claims = IsNumber estate × All IsNumber claims

abbrev pub IsAboveClaims : ℤ → List ℤ → Type 0
IsAboveClaims estate claims = pos (sum_by unsigned_abs claims) <ℤ estate

-- why an estate and claims make no game: the first of the causes that applies
abbrev pub IsRefused : ℤ → List ℤ → BankruptcyFault → Type 0
IsRefused estate claims Players = ¬ HavePlayers claims
IsRefused estate claims Number = HavePlayers claims × (¬ AreNumbers estate claims)
IsRefused estate claims Estate = HavePlayers claims × AreNumbers estate claims × IsAboveClaims estate claims
IsRefused estate claims Memory = HavePlayers claims × AreNumbers estate claims × (¬ IsAboveClaims estate claims)
