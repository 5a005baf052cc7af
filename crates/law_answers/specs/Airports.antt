-- What rules promise to those who pay for a runway. Each statement is the contract of a function of this crate.
--
--   WhoNeedsMorePaysNoLess            by the nucleolus: who needs no more pays no more
--   WhoNeedsMoreSavesNoLess           by the nucleolus: who needs more saves no less of what it would cost alone
--   WhoNeedsMorePaysNoLessByShapley   by the Shapley value (Littlechild and Owen 1973)
--   pays x i                          what player i pays, over the denominator
--   PaymentsRiseWithNeeds             Littlechild's payments (1974): who needs no less pays no less
--   NobodyPaysMoreThanAlone           Littlechild's payments: nobody pays more than alone, nor less than nothing
--   NoGroupPaysMoreThanItsCost        Littlechild's payments: no group pays more together than its greatest cost
--   AllPayTheGreatestCost             Littlechild's payments: all together pay exactly the greatest cost
use Rattle.std.specs.Prelude.{◌≡◌, ℕ, ◌^◌, ◌<◌, ◌≤◌, List, length, ℤ, pos, ◌+ℤ◌}
use Rattle.std.specs.Prelude.{◌*ℤ◌, ◌≤ℤ◌, neg_ℤ, slice_index}
use Rattle.definitions.specs.Sums.{sum_below}
use Rattle.definitions.specs.Coalitions.{grand_coalition, sum_over}
use Rattle.definitions.specs.Classes.{greatest_cost}
use Rattle.definitions.specs.Measures.{IsMeasurable}
use Rattle.definitions.specs.Games.{Allocation, share, IsNucleolus}
use Rattle.definitions.specs.Shapley.{IsShapley}
use Rattle.definitions.specs.declared.Family.{Family}
use Rattle.definitions.specs.declared.Measure.{Measure}
use Rattle.law_answers.specs.ClassGames.{airport_game}
use Rattle.airport_scheme.specs.Scheme.{IsPaid}

-- ---- the nucleolus and the Shapley value

-- who needs no more of a runway gets no less of the nucleolus, and so pays no more
abbrev pub WhoNeedsMorePaysNoLess : Type 0
WhoNeedsMorePaysNoLess =
    (family : Family) (measure : Measure) (costs : List ℕ) (x : Allocation) (i j : ℕ) →
    IsMeasurable measure (length costs) → IsNucleolus family measure (airport_game costs) x →
    i < length costs → j < length costs → slice_index costs i ≤ slice_index costs j → share x j ≤ℤ share x i

-- who needs more of a runway saves no less of what it would cost alone
abbrev pub WhoNeedsMoreSavesNoLess : Type 0
WhoNeedsMoreSavesNoLess =
    (family : Family) (measure : Measure) (costs : List ℕ) (x : Allocation) (i j : ℕ) →
    IsMeasurable measure (length costs) → IsNucleolus family measure (airport_game costs) x →
    i < length costs → j < length costs → slice_index costs i ≤ slice_index costs j →
    (x.den *ℤ pos (slice_index costs i) +ℤ share x i) ≤ℤ (x.den *ℤ pos (slice_index costs j) +ℤ share x j)

-- who needs no more of a runway gets no less of the Shapley value, and so pays no more
abbrev pub WhoNeedsMorePaysNoLessByShapley : Type 0
WhoNeedsMorePaysNoLessByShapley =
    (costs : List ℕ) (x : Allocation) (i j : ℕ) → IsShapley (airport_game costs) x →
    i < length costs → j < length costs → slice_index costs i ≤ slice_index costs j → share x j ≤ℤ share x i

-- ---- Littlechild's payments

abbrev pub pays : Allocation → ℕ → ℤ
pays x i = neg_ℤ (share x i)

abbrev pub PaymentsRiseWithNeeds : Type 0
PaymentsRiseWithNeeds =
    (costs : List ℕ) (at : ℕ → ℕ) (pay : ℕ → ℤ) (x : Allocation) (i j : ℕ) → IsPaid costs at pay x →
    i < length costs → j < length costs → slice_index costs i ≤ slice_index costs j → pays x i ≤ℤ pays x j

-- nobody pays more than the cost alone, nor less than nothing
abbrev pub NobodyPaysMoreThanAlone : Type 0
NobodyPaysMoreThanAlone =
    (costs : List ℕ) (at : ℕ → ℕ) (pay : ℕ → ℤ) (x : Allocation) (i : ℕ) → IsPaid costs at pay x →
    i < length costs → (pos 0 ≤ℤ pays x i) × (pays x i ≤ℤ (x.den *ℤ pos (slice_index costs i)))

abbrev pub NoGroupPaysMoreThanItsCost : Type 0
NoGroupPaysMoreThanItsCost =
    (costs : List ℕ) (at : ℕ → ℕ) (pay : ℕ → ℤ) (x : Allocation) (s : ℕ) → IsPaid costs at pay x →
    s < 2 ^ length costs →
    sum_over (length costs) (pays x) s ≤ℤ (x.den *ℤ pos (greatest_cost (length costs) (slice_index costs) s))

abbrev pub AllPayTheGreatestCost : Type 0
AllPayTheGreatestCost =
    (costs : List ℕ) (at : ℕ → ℕ) (pay : ℕ → ℤ) (x : Allocation) → IsPaid costs at pay x →
    sum_below (length costs) (pays x)
    ≡ x.den *ℤ pos (greatest_cost (length costs) (slice_index costs) (grand_coalition (length costs)))
