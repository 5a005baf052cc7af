-- If the first of three takes all, the two others are worth 1 and get nothing: the second outweighs the first, and
-- objects with half of it, which the first can't counter.
use Rattle.std.proofs.Common.{◌≡◌, ◌⊎◌, ℕ, ◌<◌, Bool, true, ◌||◌, not, nat_eq, pos, ◌+ℤ◌, ◌*ℤ◌, ◌≤ℤ◌, int_le, refl}
use Rattle.std.proofs.Common.{sym, ap, ◌∙◌, inl, inr, arith, rules}
use Rattle.std.proofs.lemmas.Int.{ints}
use Rattle.definitions.proofs.Cases.{from_nat_eq}
use Rattle.definitions.proofs.Splits.{passes_below-at}
use Rattle.definitions.proofs.SumsOver.{amount-at}
use Rattle.theorems.proofs.Examples.{from_either}
use Rattle.definitions.specs.Coalitions.{has_player}
use Rattle.definitions.specs.Games.{Allocation, share, amount, excess}
use Rattle.definitions.specs.Prekernel.{holds_without, IsSurplus}
use Rattle.definitions.specs.declared.Family.TheVariants.{Imputations, Preimputations}
use Rattle.definitions.specs.declared.Measure.TheVariants.{Plain}
use Rattle.law_answers.proofs.SmallNucleoli.{majority_gets_thirds}
use Rattle.law_answers.specs.SmallNucleoli.{thirds}
use Rattle.law_stability.specs.BargainingSet.{IsObjection, IsCounter, AreCountered, InBargainingSet}
use Rattle.law_stability.specs.Kernel.{InKernel}
use Rattle.law_stability.specs.LeastCore.{IsGreatestExcess, InLeastCore}
use Rattle.law_stability.specs.Majority.{majority, first_takes_all, last_halves, MajorityShares}
use Rattle.law_stability.proofs.BargainingSet.{nucleolus_in_bargaining_set}
use Rattle.law_stability.proofs.Kernel.{nucleolus_in_kernel}
use Rattle.law_stability.proofs.LeastCore.{prenucleolus_in_least_core}
use Rattle.theorems.proofs.Products.{products}

-- ---- the kernel

-- with the third, the second could have 1 more
pub second_surplus : IsSurplus majority first_takes_all 1 0 (pos 1)
second_surplus = (
  (6, (omega arith, refl), refl),
  λ s h. from_either _ _ _
      (passes_below-at 8
      (λ s. not (holds_without 1 0 s) || int_le (excess majority first_takes_all s) (pos 1)) refl s h.0) h.1,
)

-- and the first nothing
pub first_surplus : IsSurplus majority first_takes_all 0 1 (pos 0)
first_surplus = (
  (5, (omega arith, refl), refl),
  λ s h. from_either _ _ _
      (passes_below-at 8
      (λ s. not (holds_without 0 1 s) || int_le (excess majority first_takes_all s) (pos 0)) refl s h.0) h.1,
)

not_in_kernel : ¬ InKernel majority first_takes_all
not_in_kernel h =
    let alone : pos 1 ≡ pos 0 = h.1 1 0 (omega arith) (omega arith) (λ e. omega (arith, e))
    (pos 1, pos 0, second_surplus, first_surplus, search rules) in
    omega (arith, ints, alone)

-- ---- the bargaining set

pub objection : IsObjection majority first_takes_all 1 0 6 last_halves
objection = record {
  within = omega arith;
  without = refl;
  shares = (refl, search rules);
  divides = refl;
  no_less = λ i lt inside. from_either _ _ _
      (passes_below-at 3
      (λ i. not (has_player 6 i) || int_le (share first_takes_all i *ℤ pos 2) (share last_halves i *ℤ pos 1)) refl i lt)
      inside;
  more = search rules;
}

-- coalitions with the first and without the second
pub first_alone_or_third : (q : ℕ) → q < 8 → holds_without 0 1 q ≡ true → (q ≡ 1) ⊎ (q ≡ 5)
first_alone_or_third q lt h =
    by_tests (holds_without 0 1 q) (nat_eq q 1) (nat_eq q 5) refl refl
    (passes_below-at 8 (λ q. not (holds_without 0 1 q) || (nat_eq q 1 || nat_eq q 5)) refl q lt) h
  where
    by_tests : (b c d : Bool) → nat_eq q 1 ≡ c → nat_eq q 5 ≡ d → (not b || (c || d)) ≡ true → b ≡ true
        → (q ≡ 1) ⊎ (q ≡ 5)
    by_tests b c d e f h k = grind (arith, from_nat_eq)

pub no_counter : (q : ℕ) (z : Allocation) → IsCounter majority first_takes_all 1 0 6 last_halves q z → ⊥
no_counter q z c = elim (first_alone_or_third q c.within c.without) [
  | inl alone ↦
      let got = sym (ap (amount z) alone ∙ amount-at majority z 1 c.shares) ∙ c.divides
      ∙ ap (λ (s : ℕ). z.den *ℤ majority.worth s) alone in
      omega (products, got, c.as_before 0 (omega arith) (ap (λ (s : ℕ). has_player s 0) alone) refl, c.shares.1)
  | inr third ↦
      let got = sym (ap (amount z) third ∙ amount-at majority z 5 c.shares) ∙ c.divides
      ∙ ap (λ (s : ℕ). z.den *ℤ majority.worth s) third in
      let mine = c.as_before 0 (omega arith) (ap (λ (s : ℕ). has_player s 0) third) refl in
      let other = c.as_promised 2 (omega arith) (ap (λ (s : ℕ). has_player s 2) third) refl in
      let twice : share z 2 *ℤ pos 2 ≡ share z 2 +ℤ share z 2 = omega (arith, ints) in
      omega (products, got, mine, other, c.shares.1, twice)
]

pub not_countered : ¬ AreCountered majority first_takes_all
not_countered h =
    let counter = h 1 0 6 last_halves (omega arith) (omega arith) (λ e. omega (arith, e)) objection in
    no_counter counter.0 counter.1 counter.2

not_in_bargaining_set : ¬ InBargainingSet majority first_takes_all
not_in_bargaining_set h = not_countered h.1

-- ---- the least core

greatest_of_first : IsGreatestExcess Plain majority first_takes_all (pos 1)
greatest_of_first = (
  (6, (omega arith, omega arith), refl),
  λ s h. from_either _ _ _
      (passes_below-at 7 (λ s. not true || int_le (excess majority first_takes_all s) (pos 1)) refl s h.1) refl,
)

pub greatest_of_thirds : IsGreatestExcess Plain majority thirds (pos 1)
greatest_of_thirds = (
  (6, (omega arith, omega arith), refl),
  λ s h. from_either _ _ _
      (passes_below-at 7 (λ s. not true || int_le (excess majority thirds s) (pos 1)) refl s h.1) refl,
)

not_in_least_core : ¬ InLeastCore Plain majority first_takes_all
not_in_least_core h =
    let least : pos 3 ≤ℤ pos 1 =
    h.1 thirds (pos 1) (pos 1) (majority_gets_thirds Preimputations Plain).0 greatest_of_first greatest_of_thirds in
    omega (arith, ints, least)

pub majority_shares : MajorityShares
majority_shares = (
  nucleolus_in_kernel majority thirds (majority_gets_thirds Imputations Plain),
  nucleolus_in_bargaining_set majority thirds (majority_gets_thirds Imputations Plain),
  prenucleolus_in_least_core Plain majority thirds (majority_gets_thirds Preimputations Plain),
  not_in_kernel,
  not_in_bargaining_set,
  not_in_least_core,
)
