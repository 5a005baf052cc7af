-- Who claims more of an estate gets no less, by the nucleolus and by the Shapley value.
use Rattle.std.proofs.Common.{ℕ, ◌<◌, ◌≤◌, List, length, ◌≤ℤ◌, slice_index}
use Rattle.definitions.specs.Measures.{IsMeasurable}
use Rattle.definitions.specs.Games.{Allocation, share, IsNucleolus}
use Rattle.definitions.specs.Shapley.{IsShapley}
use Rattle.definitions.specs.declared.Family.{Family}
use Rattle.definitions.specs.declared.Measure.{Measure}
use Rattle.law_answers.proofs.AddsNoLessInClasses.{claim}
use Rattle.law_answers.proofs.ShapleyNoLess.{adds_gets_no_less as shapley_no_less}
use Rattle.law_answers.proofs.WhoAddsNoLessGetsNoLess.{adds_gets_no_less}
use Rattle.law_answers.specs.ClassGames.{bankruptcy_game}

pub claims_more_gets_no_less : (family : Family) (measure : Measure) (estate : ℕ) (claims : List ℕ) (x : Allocation)
    (i j : ℕ) → IsMeasurable measure (length claims)
    → IsNucleolus family measure (bankruptcy_game estate claims) x → i < length claims → j < length claims
    → slice_index claims j ≤ slice_index claims i → share x j ≤ℤ share x i
claims_more_gets_no_less family measure estate claims x i j can h hi hj le =
    adds_gets_no_less family measure (bankruptcy_game estate claims) x i j can h hi hj
    (claim estate claims i j hi hj le)

pub claims_more_gets_no_less_by_shapley : (estate : ℕ) (claims : List ℕ) (x : Allocation) (i j : ℕ)
    → IsShapley (bankruptcy_game estate claims) x → i < length claims → j < length claims
    → slice_index claims j ≤ slice_index claims i → share x j ≤ℤ share x i
claims_more_gets_no_less_by_shapley estate claims x i j h hi hj le =
    shapley_no_less (bankruptcy_game estate claims) x i j h hi hj (claim estate claims i j hi hj le)
