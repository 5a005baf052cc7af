-- The two contracts as an example of each relation of this crate, and of where it doesn't hold. The law is the contract
-- of a function of this crate.
--
--   quarters            shares of 17/12, 3/4, 11/12 and 11/12: a quarter more than before
--   three, four         the contracts with 3 as the worth of all four players, and with 4
--   ContractsCompared   from 3 to 4 all together grow, and no other coalition; so the game grows around each player,
--                       and each adds no less; and a quarter more is an equal part
use Rattle.std.specs.Prelude.{ℕ, ◌<◌, [], ◌∷◌, pos}
use Rattle.definitions.specs.Games.{Game, Allocation}
use Rattle.law_monotonicity.specs.Growth.{GroupGrows, WholeGrows, GetsEqualPart, two_contracts, before, after}
use Rattle.law_monotonicity.specs.Additions.{AddsNoLessThen}
use Rattle.law_monotonicity.specs.CoreRules.{GrowsAround, LosesInTheCore}

-- before, and a quarter more for each
abbrev pub quarters : Allocation
quarters = record { shares = pos 17 ∷ (pos 9 ∷ (pos 11 ∷ (pos 11 ∷ []))); den = pos 12 }

-- the two contracts with 3 as the worth of all four players, and with 4
abbrev pub three : Game
three = two_contracts (pos 3)

abbrev pub four : Game
four = two_contracts (pos 4)

-- each notion where it holds, and where it doesn't: of another coalition, by another number, the other way round, or
-- by other shares
abbrev pub ContractsCompared : Type 0
ContractsCompared =
    (GroupGrows (pos 1) 15 three four × ¬ GroupGrows (pos 1) 3 three four)
    × (WholeGrows (pos 1) three four × ¬ WholeGrows (pos 2) three four)
    × (((i : ℕ) → i < 4 → GrowsAround three four i) × ¬ GrowsAround four three 0)
    × (((i : ℕ) → i < 4 → AddsNoLessThen three four i) × ¬ AddsNoLessThen four three 0)
    × (((i : ℕ) → i < 4 → GetsEqualPart (pos 1) 4 before quarters i) × ¬ GetsEqualPart (pos 1) 4 before after 0)
    × ((g : Game) (i : ℕ) → ¬ LosesInTheCore g g i)
