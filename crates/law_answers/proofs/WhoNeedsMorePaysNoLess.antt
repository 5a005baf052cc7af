-- Who needs no more of a runway gets no less, and so pays no more, by the nucleolus and by the Shapley value.
use Rattle.std.proofs.Common.{ℕ, ◌<◌, ◌≤◌, List, length, ◌≤ℤ◌, slice_index}
use Rattle.definitions.specs.Measures.{IsMeasurable}
use Rattle.definitions.specs.Games.{Allocation, share, IsNucleolus}
use Rattle.definitions.specs.Shapley.{IsShapley}
use Rattle.definitions.specs.declared.Family.{Family}
use Rattle.definitions.specs.declared.Measure.{Measure}
use Rattle.law_answers.proofs.AddsNoLessInClasses.{need}
use Rattle.law_answers.proofs.ShapleyNoLess.{adds_gets_no_less as shapley_no_less}
use Rattle.law_answers.proofs.WhoAddsNoLessGetsNoLess.{adds_gets_no_less}
use Rattle.law_answers.specs.ClassGames.{airport_game}

pub needs_more_pays_no_less : (family : Family) (measure : Measure) (costs : List ℕ) (x : Allocation) (i j : ℕ)
    → IsMeasurable measure (length costs) → IsNucleolus family measure (airport_game costs) x → i < length costs
    → j < length costs → slice_index costs i ≤ slice_index costs j → share x j ≤ℤ share x i
needs_more_pays_no_less family measure costs x i j can h hi hj le =
    adds_gets_no_less family measure (airport_game costs) x i j can h hi hj (need costs i j hi hj le)

pub needs_more_pays_no_less_by_shapley : (costs : List ℕ) (x : Allocation) (i j : ℕ)
    → IsShapley (airport_game costs) x → i < length costs → j < length costs
    → slice_index costs i ≤ slice_index costs j → share x j ≤ℤ share x i
needs_more_pays_no_less_by_shapley costs x i j h hi hj le =
    shapley_no_less (airport_game costs) x i j h hi hj (need costs i j hi hj le)
