-- Sobolev's theorem (Sobolev 1975; Peleg and Sudhölter, Introduction to the Theory of Cooperative Games): four
-- properties that the prenucleolus has, and no other rule. All is over games whose worths are whole numbers, and rules
-- whose shares are fractions. Games of fractional worths are such games by a scale: covariance by whole numbers is
-- covariance by fractions there, and the reduced game stands over the denominator of the shares.
--
-- So the axioms ask less than the book does on these games, except that shares are fractions: covariance by whole
-- numbers only, and reduced games only of players who keep their order. The theorem on what meets them says no less of
-- such rules; what the prenucleolus meets in full is said by laws of its own.
--
--   IsPlayable g               a game with a player, in which the empty coalition is worth nothing
--   KeepTheirOrder m who       those who stay are numbered in their order
--   IsSingleValued rule        one allocation of each game
--   IsCovariant rule           it changes as the game does under strategic equivalence
--   IsAnonymous rule           who is renumbered keeps its share
--   HasReducedGames rule       the reduced game property
--   MeetsSobolevsAxioms rule   all four
--   SobolevsTheorem            the rules that meet these axioms are those that give each game its prenucleolus
--   SomeRuleMeetsThem          there is such a rule
--   ShapleyLacksReducedGames   the Shapley value meets the first three, and not the fourth
--   InTheirOrder               small examples of the first two notions
use Rattle.std.specs.Prelude.{◌≡◌, ◌↔◌, ℕ, ◌<◌, ◌≤◌, [], ◌∷◌, ℤ, pos, ◌≤ℤ◌}
use Rattle.definitions.specs.Games.{Game, Allocation, IsAllocation, IsSame, IsNucleolus}
use Rattle.definitions.specs.Shapley.{IsShapley}
use Rattle.definitions.specs.declared.Family.TheVariants.{Preimputations}
use Rattle.definitions.specs.declared.Measure.TheVariants.{Plain}
use Rattle.law_answers.specs.ClassGames.{voting_game}
use Rattle.law_answers.specs.StrategicEquivalence.{equivalent_game, equivalent_shares}
use Rattle.law_answers.specs.Renumbering.{IsRenumbering, renumbered_game, renumbered_shares, exchanged}
use Rattle.law_reduced_games.specs.ReducedGames.{AreSome, staying_shares, IsReducedGame}

-- a player at least, and nothing for nobody
abbrev pub IsPlayable : Game → Type 0
IsPlayable g = (1 ≤ g.players) × (g.worth 0 ≡ pos 0)

abbrev pub KeepTheirOrder : ℕ → (ℕ → ℕ) → Type 0
KeepTheirOrder m who = (k l : ℕ) → k < l → l < m → who k < who l

-- Over games of whole numbers as worths and rules of fractions as shares: the rule gives each game one allocation, of
-- whatever sum.
abbrev pub IsSingleValued : (Game → Allocation) → Type 0
IsSingleValued rule = (g : Game) → IsPlayable g → IsAllocation g (rule g)

-- It goes with a change of the unit and of what each brings of its own, in whole numbers (under strategic equivalence).
abbrev pub IsCovariant : (Game → Allocation) → Type 0
IsCovariant rule =
    (k : ℤ) (b : ℕ → ℤ) (g : Game) → pos 1 ≤ℤ k → IsPlayable g →
    IsSame g (rule (equivalent_game k b g)) (equivalent_shares k b (rule g))

-- It goes with other numbers of the players.
abbrev pub IsAnonymous : (Game → Allocation) → Type 0
IsAnonymous rule =
    (to back : ℕ → ℕ) (g : Game) → IsPlayable g → IsRenumbering g.players to back →
    IsSame g (rule (renumbered_game back g)) (renumbered_shares to (rule g))

-- And if some go with their shares, it gives the others in the reduced game what they had.
abbrev pub HasReducedGames : (Game → Allocation) → Type 0
HasReducedGames rule =
    (m : ℕ) (who : ℕ → ℕ) (g h : Game) → IsPlayable g → AreSome g.players m who → KeepTheirOrder m who →
    IsReducedGame m who g (rule g) h → IsSame h (rule h) (staying_shares m who (rule g))

pub record MeetsSobolevsAxioms (rule : Game → Allocation) : Type 0 where
  pub single : IsSingleValued rule
  pub covariant : IsCovariant rule
  pub anonymous : IsAnonymous rule
  pub reduced : HasReducedGames rule

-- a rule meets them if and only if it gives the prenucleolus to each game, of any number of players
abbrev pub SobolevsTheorem : Type 0
SobolevsTheorem =
    (rule : Game → Allocation) →
    MeetsSobolevsAxioms rule ↔ ((g : Game) → IsPlayable g → IsNucleolus Preimputations Plain g (rule g))

abbrev pub SomeRuleMeetsThem : Type 0
SomeRuleMeetsThem = (rule : Game → Allocation) × MeetsSobolevsAxioms rule

-- of four axioms the Shapley value meets three, and lacks the reduced game property
abbrev pub ShapleyLacksReducedGames : Type 0
ShapleyLacksReducedGames =
    (rule : Game → Allocation) → ((g : Game) → IsPlayable g → IsShapley g (rule g)) →
    IsSingleValued rule × IsCovariant rule × IsAnonymous rule × ¬ HasReducedGames rule

-- A vote is playable, and a game without players isn't. The first two of three keep their order, and exchanged they
-- don't
abbrev pub InTheirOrder : Type 0
InTheirOrder =
    IsPlayable (voting_game 2 (1 ∷ (1 ∷ (1 ∷ [])))) × ¬ IsPlayable (voting_game 1 [])
    × KeepTheirOrder 2 (λ k. k) × ¬ KeepTheirOrder 2 (exchanged 0 1)
