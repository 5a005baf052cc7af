-- Tables of worths, and the games that are made of them.
--
--   Table         a number of players, and worths in mask order from 1
--   table         these parts together
--   HasEachOnce   1 to 16 players, and one worth for each coalition but the empty one
--   AreSmall      each worth is below 2 ^ 40 in size
--   IsTable       both
--   IsRefused     why a table makes no game
--   table_game    the game with the listed worths
--   cost_game     the game with minus the worths of another
use Rattle.std.specs.Prelude.{◌≡◌, ℕ, ◌+◌, ◌^◌, ◌<◌, ◌≤◌, List, length, All, ℤ}
use Rattle.std.specs.Prelude.{unsigned_abs}
use Rattle.definitions.specs.Games.{Game}
use Rattle.definitions.specs.Classes.{table_worth, negated_worth}
use Rattle.worth_tables.specs.declared.table_game.TableFault.{TableFault}
use Rattle.worth_tables.specs.declared.table_game.TableFault.TheVariants.{Players, Number, Memory}

pub record Table : Type 0 where
  pub players : ℕ
  pub worths : List ℤ

-- the table of these parts
abbrev pub table : ℕ → List ℤ → Table
table n worths = record { players = n; worths = worths }

pub record HasEachOnce (t : Table) : Type 0 where
  pub some : 1 ≤ t.players
  pub few : t.players ≤ 16
  pub each_once : length t.worths + 1 ≡ 2 ^ t.players

abbrev pub AreSmall : List ℤ → Type 0
AreSmall worths = All (λ w. unsigned_abs w < 2 ^ 40) worths

-- a table of the toolbox
pub record IsTable (t : Table) : Type 0 where
  pub whole : HasEachOnce t
  pub small : AreSmall t.worths

-- why a table makes no game: it isn't whole; or it is, and a worth is too large; never for want of memory
abbrev pub IsRefused : Table → TableFault → Type 0
IsRefused t Players = ¬ HasEachOnce t
IsRefused t Number = HasEachOnce t × (¬ AreSmall t.worths)
IsRefused t Memory = ⊥

abbrev pub table_game : Table → Game
table_game t = record { players = t.players; worth = table_worth t.worths }

abbrev pub cost_game : Game → Game
cost_game g = record { players = g.players; worth = negated_worth g.worth }
