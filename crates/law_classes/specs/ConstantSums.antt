-- Games in which what a coalition and all others are worth adds to the same (von Neumann and Morgenstern 1944). Each
-- law is the contract of a function of this crate.
--
--   IsConstantSum g           each coalition and the others are worth together what all are
--   ConstantSumCores          at a core point of such a game each coalition gets exactly its worth
--   EssentialSumsHaveNoCore   so if the players alone are worth less than all, there is no core point
--   NucleolusRepresents       of such a vote, in which all together win, the nucleolus gives nobody less than nothing,
--                             and a coalition wins exactly when it gives it more than half (Peleg 1968)
--   MajorityIsConstantSum     an example that meets this definition, and one that doesn't
use Rattle.std.specs.Prelude.{◌≡◌, ◌↔◌, ℕ, ◌-◌, ◌^◌, ◌<◌, List, [], ◌∷◌, pos, ◌+ℤ◌, ◌*ℤ◌, ◌<ℤ◌, ◌≤ℤ◌}
use Rattle.definitions.specs.Coalitions.{singleton, grand_coalition}
use Rattle.definitions.specs.Games.{Game, Allocation, share, amount, IsNucleolus, InCore}
use Rattle.definitions.specs.Sums.{sum_below}
use Rattle.definitions.specs.declared.Family.{Family}
use Rattle.definitions.specs.declared.Measure.TheVariants.{Plain}
use Rattle.law_answers.specs.ClassGames.{voting_game}

-- each coalition and the others are worth together what all are
abbrev pub IsConstantSum : Game → Type 0
IsConstantSum g =
    (s : ℕ) → s < 2 ^ g.players →
    g.worth s +ℤ g.worth (grand_coalition g.players - s) ≡ g.worth (grand_coalition g.players)

abbrev pub ConstantSumCores : Type 0
ConstantSumCores =
    (g : Game) (x : Allocation) (s : ℕ) → IsConstantSum g → InCore g x → s < 2 ^ g.players →
    amount x s ≡ x.den *ℤ g.worth s

-- an essential game of this kind has no core point: there is something to win together, and each win is another's loss
abbrev pub EssentialSumsHaveNoCore : Type 0
EssentialSumsHaveNoCore =
    (g : Game) (x : Allocation) → IsConstantSum g →
    sum_below g.players (λ i. g.worth (singleton i)) <ℤ g.worth (grand_coalition g.players) → ¬ InCore g x

-- if exactly one of each coalition and its complement wins, the shares of the nucleolus, and of the prenucleolus, are
-- weights for the vote, none of them below 0, with more than half as quota
abbrev pub NucleolusRepresents : Type 0
NucleolusRepresents =
    (family : Family) (quota : ℕ) (weights : List ℕ) (x : Allocation) →
    IsConstantSum (voting_game quota weights) →
    (voting_game quota weights).worth (grand_coalition (voting_game quota weights).players) ≡ pos 1 →
    IsNucleolus family Plain (voting_game quota weights) x →
    ((i : ℕ) → i < (voting_game quota weights).players → pos 0 ≤ℤ share x i)
    × ((s : ℕ) → s < 2 ^ (voting_game quota weights).players →
    ((voting_game quota weights).worth s ≡ pos 1) ↔ (x.den <ℤ (amount x s +ℤ amount x s)))

-- of three with a vote each two win, and of two with a vote each both have to agree
abbrev pub MajorityIsConstantSum : Type 0
MajorityIsConstantSum =
    IsConstantSum (voting_game 2 (1 ∷ (1 ∷ (1 ∷ [])))) × ¬ IsConstantSum (voting_game 2 (1 ∷ (1 ∷ [])))
