-- Who can block a vote, and the core of simple games. Each law is the contract of a function of this crate.
-- Sources: Shapley 1962 (simple games); Peleg and Sudhölter, Introduction to the Theory of Cooperative Games.
--
--   IsSimple g               each coalition wins or loses, and with more members it still wins
--   HasVeto g i              no coalition without player i wins
--   IsAmongVetoes g x        nobody gets less than nothing, and who gets more than that has a veto
--   VotesAreSimple           a vote by weights and a quota is a simple game
--   CoreIsAmongVetoes        the core points are exactly the divisions among those with a veto
--   ACoreNeedsAVeto          if all together win, there is a core point exactly when somebody has a veto
--   WhoHasAVetoGetsNoLess    by the nucleolus, who has a veto gets no less than anybody else
--   halves                   half for the first and half for the second
--   TwoOfThreeVetoes         an example that meets these definitions, and one that doesn't
use Rattle.std.specs.Prelude.{◌≡◌, ◌↔◌, ◌⊎◌, ℕ, ◌^◌, ◌<◌, List, [], ◌∷◌, pos, true, false, ◌<ℤ◌, ◌≤ℤ◌}
use Rattle.definitions.specs.Classes.{table_worth}
use Rattle.definitions.specs.Coalitions.{has_player, grand_coalition}
use Rattle.definitions.specs.Games.{Game, Allocation, share, IsAllocation, IsEfficient, IsNucleolus, InCore}
use Rattle.definitions.specs.Measures.{IsMeasurable}
use Rattle.definitions.specs.declared.Family.{Family}
use Rattle.definitions.specs.declared.Measure.{Measure}
use Rattle.law_answers.specs.ClassGames.{voting_game}

-- each coalition is worth 0 or 1, and one that holds the members of another is worth no less
pub record IsSimple (g : Game) : Type 0 where
  pub votes : (s : ℕ) → s < 2 ^ g.players → (g.worth s ≡ pos 0) ⊎ (g.worth s ≡ pos 1)
  pub more : (s t : ℕ) → s < 2 ^ g.players → t < 2 ^ g.players
      → ((i : ℕ) → i < g.players → has_player s i ≡ true → has_player t i ≡ true) → g.worth s ≤ℤ g.worth t

-- no coalition without player i wins
abbrev pub HasVeto : Game → ℕ → Type 0
HasVeto g i = (s : ℕ) → s < 2 ^ g.players → has_player s i ≡ false → g.worth s ≡ pos 0

-- a division of what all are worth among those with a veto
pub record IsAmongVetoes (g : Game) (x : Allocation) : Type 0 where
  pub shares : IsAllocation g x
  pub all : IsEfficient g x
  pub no_less : (i : ℕ) → i < g.players → pos 0 ≤ℤ share x i
  pub vetoes : (i : ℕ) → i < g.players → pos 0 <ℤ share x i → HasVeto g i

abbrev pub VotesAreSimple : Type 0
VotesAreSimple = (quota : ℕ) (weights : List ℕ) → IsSimple (voting_game quota weights)

abbrev pub CoreIsAmongVetoes : Type 0
CoreIsAmongVetoes = (g : Game) (x : Allocation) → IsSimple g → InCore g x ↔ IsAmongVetoes g x

-- if all together win, there is a core point exactly when somebody has a veto
abbrev pub ACoreNeedsAVeto : Type 0
ACoreNeedsAVeto =
    (g : Game) → IsSimple g → g.worth (grand_coalition g.players) ≡ pos 1 →
    ((x : Allocation) × InCore g x) ↔ ((i : ℕ) × (i < g.players) × HasVeto g i)

abbrev pub WhoHasAVetoGetsNoLess : Type 0
WhoHasAVetoGetsNoLess =
    (family : Family) (measure : Measure) (g : Game) (x : Allocation) (i j : ℕ) → IsMeasurable measure g.players →
    IsSimple g → IsNucleolus family measure g x → i < g.players → j < g.players → HasVeto g i →
    share x j ≤ℤ share x i

-- ---- an example that meets these definitions, and one that doesn't

-- of 7 votes that are needed the first has 3, the second 4, and the third 1
abbrev pub three_voters : Game
three_voters = voting_game 7 (3 ∷ (4 ∷ (1 ∷ [])))

-- half for the first and half for the second
abbrev pub halves : Allocation
halves = record { shares = pos 1 ∷ (pos 1 ∷ (pos 0 ∷ [])); den = pos 2 }

-- half for the first and half for the third
abbrev pub outer_halves : Allocation
outer_halves = record { shares = pos 1 ∷ (pos 0 ∷ (pos 1 ∷ [])); den = pos 2 }

-- The first two have a veto, and the third has none; so the first halves are a division among those with a veto, and
-- the second aren't. Who earn 2 together are no simple game
abbrev pub TwoOfThreeVetoes : Type 0
TwoOfThreeVetoes =
    HasVeto three_voters 0 × HasVeto three_voters 1 × ¬ HasVeto three_voters 2
    × IsAmongVetoes three_voters halves × ¬ IsAmongVetoes three_voters outer_halves
    × ¬ IsSimple (record { players = 2; worth = table_worth (pos 0 ∷ (pos 0 ∷ (pos 2 ∷ []))) })
