-- What the commands do with each class of games: the list of classes. If a command doesn't serve the class, the
-- usage of the class is the right answer, and if a game has more players than are answered, the usage of players.
--
-- A new class adds its case to `nucleolus_limit`, `shapley_limit`, `HasFewPlayers` and `IsSchemePoint`; and to
-- `core_limit`, `IsChosen` and `serves_class`, if it isn't like most classes.
--
--   is_market, is_tree   the class of the game
--   is_no_market         the game is of another class than a market
--   serves_class         the command serves the class of the game
--   nucleolus_limit      the most players of a game whose nucleolus is answered, by the measure and the class
--   core_limit           the most players of a game whose core is answered, by the class
--   shapley_limit        the most players of a game whose Shapley shares are answered, by its class
--   HasFewPlayers        a game without a scheme of its own has at most 16 players, and is no market, which is
--                        matched instead
--   IsChosen             with plain excess the certificate of an airport or bankruptcy game is its scheme's; for other
--                        games any certificate of the shares may be printed
--   IsSchemePoint        the point of an airport or bankruptcy game is its nucleolus, and that of a tree game has
--                        Bird's shares
use Rattle.std.specs.Prelude.{Bool, true, false, ◌≡◌, ⊤, ℕ, ◌≤◌, length, ℤ}
use Rattle.std.specs.Prelude.{List}
use Rattle.definitions.specs.Games.{Allocation, IsNucleolus}
use Rattle.definitions.specs.declared.Measure.{Measure}
use Rattle.definitions.specs.declared.Measure.TheVariants.{Plain, PerHead}
use Rattle.definitions.specs.declared.Mode.TheVariants.{Players}
use Rattle.definitions.specs.declared.Family.TheVariants.{Imputations}
use Rattle.tree_games.specs.Trees.{tree_game, IsBird}
use Rattle.assignment_games.specs.Assignments.{assignment_game}
use Rattle.kohlberg.specs.Certificate.{CertificateData}
use Rattle.airport_scheme.specs.Levels.{AreSchemeLevels}
use Rattle.talmud.specs.Levels.{AreRuleLevels}
use Rattle.game_text.specs.declared.command.Command.{Command}
use Rattle.game_text.specs.declared.command.Command.TheVariants.{Bird, Matching}
use Rattle.game_text.specs.Classes.{Description, tree, market, airport, bankruptcy, table, cost, assignment, voting}
use Rattle.game_text.specs.Classes.{game_of}

-- ---- who is served

abbrev pub is_market : Description → Bool
is_market (market rows) = true
is_market _ = false

abbrev pub is_tree : Description → Bool
is_tree (tree rows) = true
is_tree _ = false

abbrev pub is_no_market : Description → Bool
is_no_market (market rows) = false
is_no_market _ = true

-- a market is matched, Bird's shares are those of a tree game, and the other commands serve all classes but the market
abbrev pub serves_class : Command → Description → Bool
serves_class Matching d = is_market d
serves_class Bird d = is_tree d
serves_class _ d = is_no_market d

-- ---- how many players

-- the most players of a game whose nucleolus is answered: the programs per head are those of few players, and with
-- plain excess airport and bankruptcy games have schemes of their own
-- (of the classes that are served only voting games can have more with plain excess; the other limits are stated too)
abbrev pub nucleolus_limit : Measure → Description → ℕ
nucleolus_limit PerHead d = 8
nucleolus_limit Plain (table n worths) = 16
nucleolus_limit Plain (cost n costs) = 16
nucleolus_limit Plain (airport costs) = 64
nucleolus_limit Plain (bankruptcy estate claims) = 64
nucleolus_limit Plain (tree rows) = 16
nucleolus_limit Plain (assignment rows) = 16
nucleolus_limit Plain (market rows) = 16
nucleolus_limit Plain (voting quota weights) = 16

-- the most players of a game whose core is answered: of the classes that have more than 16 players, only voting games
-- have no point of their own
abbrev pub core_limit : Description → ℕ
core_limit (voting quota weights) = 16
core_limit _ = 64

-- the most players of a game whose Shapley shares are answered: the steps of an airport's costs and the sums of votes
-- are few, and the coalitions of another game many
-- (`shapley` and `airport_shapley` refuse more players, and `run` answers that as usage: so the limit is tested once)
abbrev pub shapley_limit : Description → ℕ
shapley_limit (table n worths) = 16
shapley_limit (cost n costs) = 16
shapley_limit (airport costs) = 32
shapley_limit (bankruptcy estate claims) = 16
shapley_limit (tree rows) = 16
shapley_limit (assignment rows) = 16
shapley_limit (market rows) = 16
shapley_limit (voting quota weights) = 32

abbrev pub HasFewPlayers : Description → Type 0
HasFewPlayers (table n worths) = n ≤ 16
HasFewPlayers (cost n costs) = n ≤ 16
HasFewPlayers (airport costs) = ⊤
HasFewPlayers (bankruptcy estate claims) = ⊤
HasFewPlayers (tree rows) = (tree_game rows).players ≤ 16
HasFewPlayers (assignment rows) = (assignment_game rows).players ≤ 16
HasFewPlayers (market rows) = ⊥
HasFewPlayers (voting quota weights) = length weights ≤ 16

-- ---- what a scheme of its own gives

-- With plain excess, the certificate of an airport game is in mode players, and its levels are those of the scheme for
-- some order of the players by their costs (Littlechild 1974). That of a bankruptcy game is in mode players too, and
-- its levels are those of the Talmud rule (Aumann and Maschler 1985). That of any other game may be any.
abbrev pub IsChosen : Measure → Description → Allocation → CertificateData → Type 0
IsChosen PerHead d x c = ⊤
IsChosen Plain (airport costs) x c = (c.mode ≡ Players) × ((at : ℕ → ℕ) × AreSchemeLevels costs at x c.levels)
IsChosen Plain (bankruptcy estate claims) x c = (c.mode ≡ Players) × AreRuleLevels estate claims x c.levels
IsChosen Plain d x c = ⊤

-- the point of an airport or bankruptcy game is its nucleolus, and that of a tree game has Bird's shares; that of
-- another may be any
abbrev pub IsSchemePoint : Description → Allocation → Type 0
IsSchemePoint (table n worths) x = ⊤
IsSchemePoint (cost n costs) x = ⊤
IsSchemePoint (airport costs) x = IsNucleolus Imputations Plain (game_of (airport costs)) x
IsSchemePoint (bankruptcy estate claims) x = IsNucleolus Imputations Plain (game_of (bankruptcy estate claims)) x
IsSchemePoint (tree rows) x = (edges : List (ℕ × ℕ × ℤ)) × IsBird rows x edges
IsSchemePoint (assignment rows) x = ⊤
IsSchemePoint (market rows) x = ⊤
IsSchemePoint (voting quota weights) x = ⊤
