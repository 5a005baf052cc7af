-- Who has more votes gets no less, by the nucleolus and by the Shapley value.
use Rattle.std.proofs.Common.{ℕ, ◌<◌, ◌≤◌, List, length, ◌≤ℤ◌, slice_index}
use Rattle.definitions.specs.Measures.{IsMeasurable}
use Rattle.definitions.specs.Games.{Allocation, share, IsNucleolus}
use Rattle.definitions.specs.Shapley.{IsShapley}
use Rattle.definitions.specs.declared.Family.{Family}
use Rattle.definitions.specs.declared.Measure.{Measure}
use Rattle.law_answers.proofs.AddsNoLessInClasses.{votes}
use Rattle.law_answers.proofs.ShapleyNoLess.{adds_gets_no_less as shapley_no_less}
use Rattle.law_answers.proofs.WhoAddsNoLessGetsNoLess.{adds_gets_no_less}
use Rattle.law_answers.specs.ClassGames.{voting_game}

pub more_votes_get_no_less : (family : Family) (measure : Measure) (quota : ℕ) (weights : List ℕ) (x : Allocation)
    (i j : ℕ) → IsMeasurable measure (length weights) → IsNucleolus family measure (voting_game quota weights) x
    → i < length weights → j < length weights → slice_index weights j ≤ slice_index weights i
    → share x j ≤ℤ share x i
more_votes_get_no_less family measure quota weights x i j can h hi hj le =
    adds_gets_no_less family measure (voting_game quota weights) x i j can h hi hj
    (votes quota weights i j hi hj le)

pub more_votes_get_no_less_by_shapley : (quota : ℕ) (weights : List ℕ) (x : Allocation) (i j : ℕ)
    → IsShapley (voting_game quota weights) x → i < length weights → j < length weights
    → slice_index weights j ≤ slice_index weights i → share x j ≤ℤ share x i
more_votes_get_no_less_by_shapley quota weights x i j h hi hj le =
    shapley_no_less (voting_game quota weights) x i j h hi hj (votes quota weights i j hi hj le)
