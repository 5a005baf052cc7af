-- Games that have imputations.
--
--   HasImputations g   the players are worth no more alone, added, than all together, which is so exactly when g has
--                      an imputation
use Rattle.std.specs.Prelude.{◌≤ℤ◌}
use Rattle.definitions.specs.Sums.{sum_below}
use Rattle.definitions.specs.Coalitions.{singleton, grand_coalition}
use Rattle.definitions.specs.Games.{Game}

-- what the players are worth alone, added, is at most the worth of all
abbrev pub HasImputations : Game → Type 0
HasImputations g = sum_below g.players (λ i. g.worth (singleton i)) ≤ℤ g.worth (grand_coalition g.players)
