-- What the plain programs take, so that 128 bits hold every number they meet, and the list of blocking coalitions.
--
--   WorthTable       worths in mask order
--   game_of          the game of the listed worths
--   IsSmallTable     1 to 16 players, and each worth below 2 ^ 46 in size
--   IsSmallPoint     at most 16 shares, each below 2 ^ 84 in size, over a denominator from 1 to 2 ^ 38
--   IsSmallerPoint   shares below 2 ^ 74 in size, over a denominator of at most 2 ^ 28
--   Fits             excesses of the point have the measure
--   scale_limit      the greatest size of a scale
--   excess_limit     what measured excesses are below in size
--   blocking_masks   the coalitions that are worth more than their members get
use Rattle.std.specs.Prelude.{◌≡◌, ℕ, ◌+◌, ◌^◌, ◌<◌, ◌≤◌, List, length, All, ℤ}
use Rattle.std.specs.Prelude.{pos, ◌*ℤ◌, ◌≤ℤ◌, int_lt, unsigned_abs}
use Rattle.std.specs.List.{filter, range_with_len}
use Rattle.definitions.specs.Games.{Game, Allocation, amount}
use Rattle.definitions.specs.Classes.{table_worth}
use Rattle.definitions.specs.declared.Measure.{Measure}
use Rattle.definitions.specs.declared.Measure.TheVariants.{Plain, PerHead}

-- the worth of each coalition but the empty one, in mask order
pub record WorthTable : Type 0 where
  pub players : ℕ
  pub worths : List ℤ

abbrev pub game_of : WorthTable → Game
game_of t = record { players = t.players; worth = table_worth t.worths }

-- 1 to 16 players, one worth for each coalition but the empty one, and each below 2 ^ 46 in size
pub record IsSmallTable (t : WorthTable) : Type 0 where
  pub some : 1 ≤ t.players
  pub few : t.players ≤ 16
  pub each_once : length t.worths + 1 ≡ 2 ^ t.players
  pub small : All (λ w. unsigned_abs w < 2 ^ 46) t.worths

pub record IsSmallPoint (x : Allocation) : Type 0 where
  pub few : length x.shares ≤ 16
  pub positive : pos 1 ≤ℤ x.den
  pub common : x.den ≤ℤ pos (2 ^ 38)
  pub small : All (λ a. unsigned_abs a < 2 ^ 84) x.shares

-- each share below 2 ^ 74 in size, over a denominator of at most 2 ^ 28
pub record IsSmallerPoint (x : Allocation) : Type 0 where
  pub common : x.den ≤ℤ pos (2 ^ 28)
  pub small : All (λ a. unsigned_abs a < 2 ^ 74) x.shares

-- excesses of the point have the measure: per head they are up to 720720 times as great
abbrev pub Fits : Measure → Allocation → Type 0
Fits Plain x = Unit {0}
Fits PerHead x = IsSmallerPoint x

abbrev pub scale_limit : Measure → ℕ
scale_limit Plain = 2 ^ 38
scale_limit PerHead = 2 ^ 28

abbrev pub excess_limit : Measure → ℕ
excess_limit Plain = 2 ^ 89
excess_limit PerHead = 2 ^ 99

-- the masks of the coalitions that are worth more than their members get, in ascending order
abbrev pub blocking_masks : Game → Allocation → List ℕ
blocking_masks g x = filter (λ s. int_lt (amount x s) (x.den *ℤ g.worth s)) (range_with_len 0 (2 ^ g.players))
