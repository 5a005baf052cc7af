-- The Talmud's shares of an estate are a core point of its game (Aumann and Maschler 1985). The law is the contract of
-- a function of this crate.
--
--   TalmudIsInCore   no group of claimants could do better by itself, of any number of claims
use Rattle.std.specs.Prelude.{ℕ, List}
use Rattle.definitions.specs.Games.{Allocation, InCore}
use Rattle.law_answers.specs.ClassGames.{bankruptcy_game}
use Rattle.talmud.specs.Rule.{IsTalmud}

abbrev pub TalmudIsInCore : Type 0
TalmudIsInCore =
    (estate : ℕ) (claims : List ℕ) (x : Allocation) → IsTalmud estate claims x →
    InCore (bankruptcy_game estate claims) x
