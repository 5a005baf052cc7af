-- The games of three classes, by what each keeps: those that the crates airport, bankruptcy and voting make, with no
-- bound on players and numbers.
--
--   airport_game costs              of those who need a runway at these costs (Littlechild 1974)
--   bankruptcy_game estate claims   of those who claim an estate (O'Neill 1982)
--   voting_game quota weights       of those who vote with these weights (Shapley and Shubik 1954)
use Rattle.std.specs.Prelude.{ℕ, List, length}
use Rattle.definitions.specs.Classes.{airport_worth, bankruptcy_worth, voting_worth}
use Rattle.definitions.specs.Games.{Game}

-- each coalition is worth minus the greatest cost among its members
abbrev pub airport_game : List ℕ → Game
airport_game costs = record { players = length costs; worth = airport_worth costs }

-- each coalition is worth what the claims of the others leave of the estate
abbrev pub bankruptcy_game : ℕ → List ℕ → Game
bankruptcy_game estate claims = record { players = length claims; worth = bankruptcy_worth estate claims }

-- each coalition is worth 1 if its members' weights sum to at least the quota, and 0 otherwise
abbrev pub voting_game : ℕ → List ℕ → Game
voting_game quota weights = record { players = length weights; worth = voting_worth quota weights }
