-- What rules promise to those who vote by weights and a quota (Shapley and Shubik 1954). Each statement is the contract
-- of a function of this crate.
--
--   WhoHasMoreVotesGetsNoLess            by the nucleolus
--   WhoHasMoreVotesGetsNoLessByShapley   by the Shapley value, which is the index of power
use Rattle.std.specs.Prelude.{ℕ, ◌<◌, ◌≤◌, List, length, ◌≤ℤ◌, slice_index}
use Rattle.definitions.specs.Measures.{IsMeasurable}
use Rattle.definitions.specs.Games.{Allocation, share, IsNucleolus}
use Rattle.definitions.specs.Shapley.{IsShapley}
use Rattle.definitions.specs.declared.Family.{Family}
use Rattle.definitions.specs.declared.Measure.{Measure}
use Rattle.law_answers.specs.ClassGames.{voting_game}

-- who has more votes gets no less of the nucleolus
abbrev pub WhoHasMoreVotesGetsNoLess : Type 0
WhoHasMoreVotesGetsNoLess =
    (family : Family) (measure : Measure) (quota : ℕ) (weights : List ℕ) (x : Allocation) (i j : ℕ) →
    IsMeasurable measure (length weights) → IsNucleolus family measure (voting_game quota weights) x →
    i < length weights → j < length weights → slice_index weights j ≤ slice_index weights i → share x j ≤ℤ share x i

-- who has more votes has no less power
abbrev pub WhoHasMoreVotesGetsNoLessByShapley : Type 0
WhoHasMoreVotesGetsNoLessByShapley =
    (quota : ℕ) (weights : List ℕ) (x : Allocation) (i j : ℕ) → IsShapley (voting_game quota weights) x →
    i < length weights → j < length weights → slice_index weights j ≤ slice_index weights i → share x j ≤ℤ share x i
