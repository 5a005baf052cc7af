-- Two with a vote each: a game in which both have to agree, and one in which one suffices. The law is the contract of a
-- function of this crate.
--
--   both_agree, one_suffices   the two games
--   halves                     half for each
--   TwoVoters                  if both have to agree, who joins does no harm, and halves are free of subsidies;
--                              if one suffices, who joins the other does harm. Both together are joined of each
--                              alone, and one alone isn't. Of three who vote by majority, that the first takes all
--                              isn't free of subsidies. If one suffices, halves lie in the prekernel, and so each
--                              objection can be countered; but alone each is worth more than its half
use Rattle.std.specs.Prelude.{[], ◌∷◌, pos}
use Rattle.definitions.specs.Games.{Game, Allocation}
use Rattle.definitions.specs.Prekernel.{InPrekernel}
use Rattle.law_answers.specs.ClassGames.{voting_game}
use Rattle.law_stability.specs.BargainingSet.{AreCountered, InBargainingSet}
use Rattle.law_stability.specs.Majority.{majority, first_takes_all}
use Rattle.law_stability.specs.Subsidies.{IsSubsidyFree}
use Rattle.law_stability.specs.Superadditive.{IsJoined, IsSuperadditive}
use Rattle.law_stability.specs.ZeroMonotonic.{IsZeroMonotonic}

-- two with a vote each, of whom both win together
abbrev pub both_agree : Game
both_agree = voting_game 2 (1 ∷ (1 ∷ []))

-- of whom each wins alone
abbrev pub one_suffices : Game
one_suffices = voting_game 1 (1 ∷ (1 ∷ []))

abbrev pub halves : Allocation
halves = record { shares = pos 1 ∷ (pos 1 ∷ []); den = pos 2 }

abbrev pub TwoVoters : Type 0
TwoVoters =
    (IsZeroMonotonic both_agree × ¬ IsZeroMonotonic one_suffices)
    × (IsSuperadditive both_agree × ¬ IsSuperadditive one_suffices)
    × (IsJoined 2 1 2 3 × ¬ IsJoined 2 1 2 1)
    × (IsSubsidyFree both_agree halves × ¬ IsSubsidyFree majority first_takes_all)
    × (InPrekernel one_suffices halves × AreCountered one_suffices halves × ¬ InBargainingSet one_suffices halves)
