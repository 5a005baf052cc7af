-- What rules promise to those who claim an estate that doesn't cover all claims (O'Neill 1982). Each statement is the
-- contract of a function of this crate. What the Talmud rule promises stands in TalmudRule.
--
--   WhoClaimsMoreGetsNoLess            by the nucleolus
--   WhoClaimsMoreLosesNoLess           by the nucleolus: loses no less of the claim
--   WhoClaimsMoreGetsNoLessByShapley   by the Shapley value
use Rattle.std.specs.Prelude.{ℕ, ◌<◌, ◌≤◌, List, length, pos, ◌-ℤ◌, ◌*ℤ◌, ◌≤ℤ◌, slice_index}
use Rattle.definitions.specs.Measures.{IsMeasurable}
use Rattle.definitions.specs.Games.{Allocation, share, IsNucleolus}
use Rattle.definitions.specs.Shapley.{IsShapley}
use Rattle.definitions.specs.declared.Family.{Family}
use Rattle.definitions.specs.declared.Measure.{Measure}
use Rattle.law_answers.specs.ClassGames.{bankruptcy_game}

-- who claims more of an estate gets no less of the nucleolus
abbrev pub WhoClaimsMoreGetsNoLess : Type 0
WhoClaimsMoreGetsNoLess =
    (family : Family) (measure : Measure) (estate : ℕ) (claims : List ℕ) (x : Allocation) (i j : ℕ) →
    IsMeasurable measure (length claims) → IsNucleolus family measure (bankruptcy_game estate claims) x →
    i < length claims → j < length claims → slice_index claims j ≤ slice_index claims i → share x j ≤ℤ share x i

-- who claims more of an estate loses no less of the claim
abbrev pub WhoClaimsMoreLosesNoLess : Type 0
WhoClaimsMoreLosesNoLess =
    (family : Family) (measure : Measure) (estate : ℕ) (claims : List ℕ) (x : Allocation) (i j : ℕ) →
    IsMeasurable measure (length claims) → IsNucleolus family measure (bankruptcy_game estate claims) x →
    i < length claims → j < length claims → slice_index claims j ≤ slice_index claims i →
    (x.den *ℤ pos (slice_index claims j) -ℤ share x j) ≤ℤ (x.den *ℤ pos (slice_index claims i) -ℤ share x i)

-- who claims more of an estate gets no less of the Shapley value
abbrev pub WhoClaimsMoreGetsNoLessByShapley : Type 0
WhoClaimsMoreGetsNoLessByShapley =
    (estate : ℕ) (claims : List ℕ) (x : Allocation) (i j : ℕ) → IsShapley (bankruptcy_game estate claims) x →
    i < length claims → j < length claims → slice_index claims j ≤ slice_index claims i → share x j ≤ℤ share x i
