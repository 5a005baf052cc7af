-- Who needs more of a runway saves no less: beside the costs alone, the one who needs more adds no less.
use Rattle.std.proofs.Common.{◌≡◌, ℕ, ◌+◌, ◌-◌, ◌^◌, ◌<◌, ◌≤◌, true, false, List, length, ℤ, pos, ◌+ℤ◌, ◌*ℤ◌, ◌≤ℤ◌, sym}
use Rattle.std.proofs.Common.{ap, ◌∙◌, inl, inr, arith, slice_index}
use Rattle.std.proofs.lemmas.Bool.{false≢true}
use Rattle.std.proofs.lemmas.Int.{ints}
use Rattle.definitions.proofs.Cases.{same_or_other}
use Rattle.definitions.proofs.Parts.{has_player-more_same, has_player-more_other}
use Rattle.definitions.proofs.Ring.{linear}
use Rattle.law_answers.proofs.BesideTheirOwn.{AddsNoLessWith, gets_no_less_with}
use Rattle.airport.proofs.GreatestCosts.{greatest_cost-at_least, greatest_cost-at_most}
use Rattle.definitions.specs.Classes.{greatest_cost}
use Rattle.law_answers.specs.ClassGames.{airport_game}
use Rattle.definitions.specs.Coalitions.{has_player}
use Rattle.definitions.specs.Measures.{IsMeasurable}
use Rattle.definitions.specs.Games.{Allocation, share, IsNucleolus}
use Rattle.definitions.specs.declared.Family.{Family}
use Rattle.definitions.specs.declared.Measure.{Measure}

-- with j in the place of i the greatest cost rises by no more than the cost alone
rises_no_more : (n : ℕ) (cost : ℕ → ℕ) (s i j : ℕ) → i < n → has_player s i ≡ false → has_player s j ≡ false
    → cost i ≤ cost j → greatest_cost n cost (s + 2 ^ j) + cost i ≤ greatest_cost n cost (s + 2 ^ i) + cost j
rises_no_more n cost s i j hi a b le =
    let with_i = greatest_cost n cost (s + 2 ^ i) in
    let own = greatest_cost-at_least n cost (s + 2 ^ i) i hi (has_player-more_same s i a) in
    let most =
    greatest_cost-at_most n cost (s + 2 ^ j) (with_i + (cost j - cost i)) (λ k lt has. elim (same_or_other k j) [
      | inl same ↦ omega (arith, le, ap cost same, own)
      | inr other ↦
          let inside : has_player s k ≡ true = sym (has_player-more_other s j k b other) ∙ has in
          let apart : k ≡ i → ⊥ = λ e. false≢true (sym a ∙ sym (ap (has_player s) e) ∙ inside) in
          omega
          (arith, greatest_cost-at_least n cost (s + 2 ^ i) k lt (has_player-more_other s i k a apart ∙ inside))
    ]) in
    omega (arith, most, le, own)

adds_no_less : (costs : List ℕ) (i j : ℕ) → i < length costs → slice_index costs i ≤ slice_index costs j
    → AddsNoLessWith (λ k. pos (slice_index costs k)) (airport_game costs) j i
adds_no_less costs i j hi le s within b a =
    omega (arith, ints, rises_no_more (length costs) (slice_index costs) s i j hi a b le)

pub needs_more_saves_no_less : (family : Family) (measure : Measure) (costs : List ℕ) (x : Allocation) (i j : ℕ)
    → IsMeasurable measure (length costs) → IsNucleolus family measure (airport_game costs) x → i < length costs
    → j < length costs → slice_index costs i ≤ slice_index costs j
    → (x.den *ℤ pos (slice_index costs i) +ℤ share x i) ≤ℤ (x.den *ℤ pos (slice_index costs j) +ℤ share x j)
needs_more_saves_no_less family measure costs x i j can h hi hj le =
    let b : ℕ → ℤ = λ k. pos (slice_index costs k) in
    let less =
    gets_no_less_with b family measure (airport_game costs) x j i can h hj hi (adds_no_less costs i j hi le) in
    omega (arith, linear, less)
