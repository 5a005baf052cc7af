-- Objections and counters of three who vote by majority: by computation, and for all that could be offered.
use Rattle.std.proofs.Common.{◌≢◌, ℕ, ◌<◌, ◌&&◌, ◌||◌, not, pos, ◌*ℤ◌, int_le, refl, sym, ap, ◌∙◌, inl, inr, arith}
use Rattle.std.proofs.Common.{rules}
use Rattle.std.proofs.lemmas.Int.{ints}
use Rattle.definitions.proofs.Cases.{and_both}
use Rattle.definitions.proofs.Splits.{passes_below-at}
use Rattle.definitions.proofs.SumsOver.{amount-at}
use Rattle.theorems.proofs.Examples.{from_either}
use Rattle.theorems.proofs.Transfers.{prenucleolus_in_prekernel}
use Rattle.definitions.specs.Coalitions.{has_player}
use Rattle.definitions.specs.Games.{Allocation, share, amount}
use Rattle.definitions.specs.declared.Family.TheVariants.{Preimputations}
use Rattle.definitions.specs.declared.Measure.TheVariants.{Plain}
use Rattle.law_answers.proofs.SmallNucleoli.{majority_gets_thirds}
use Rattle.law_answers.specs.SmallNucleoli.{thirds}
use Rattle.law_stability.specs.BargainingSet.{IsObjection, IsCounter}
use Rattle.law_stability.specs.Kernel.{Outweighs}
use Rattle.law_stability.specs.LeastCore.{IsGreatestExcess}
use Rattle.law_stability.specs.Majority.{majority, first_takes_all, last_halves, outer_halves, MajorityObjections}
use Rattle.law_stability.proofs.FirstTakesAll.{second_surplus, first_surplus, objection, first_alone_or_third}
use Rattle.law_stability.proofs.FirstTakesAll.{no_counter}
use Rattle.law_stability.proofs.FirstTakesAll.{greatest_of_thirds, not_countered}
use Rattle.law_stability.proofs.BargainingSet.{prenucleolus_counters}
use Rattle.law_stability.proofs.Kernel.{none_outweighs}
use Rattle.theorems.proofs.Products.{products}

nobody_outweighs : (i j : ℕ) → i < 3 → j < 3 → i ≢ j → ¬ Outweighs majority thirds i j
nobody_outweighs i j hi hj ne =
    none_outweighs majority thirds i j
    ((prenucleolus_in_prekernel majority thirds (majority_gets_thirds Preimputations Plain)).2 i j hi hj ne)

-- ---- who has all has no objection

no_objection : (p : ℕ) (y : Allocation) → ¬ IsObjection majority first_takes_all 0 1 p y
no_objection p y o = elim (first_alone_or_third p o.within o.without) [
  | inl alone ↦
      let got = sym (ap (amount y) alone ∙ amount-at majority y 1 o.shares) ∙ o.divides
      ∙ ap (λ (s : ℕ). y.den *ℤ majority.worth s) alone in
      omega (products, got, o.more, o.shares.1)
  | inr third ↦
      let got = sym (ap (amount y) third ∙ amount-at majority y 5 o.shares) ∙ o.divides
      ∙ ap (λ (s : ℕ). y.den *ℤ majority.worth s) third in
      omega (products, got, o.no_less 2 (omega arith) (ap (λ (s : ℕ). has_player s 2) third), o.more, o.shares.1)
]

-- ---- by thirds

half_objection : IsObjection majority thirds 0 1 5 outer_halves
half_objection = record {
  within = omega arith;
  without = refl;
  shares = (refl, search rules);
  divides = refl;
  no_less = λ i lt inside. from_either _ _ _
      (passes_below-at 3
      (λ i. not (has_player 5 i) || int_le (share thirds i *ℤ pos 2) (share outer_halves i *ℤ pos 3)) refl i lt)
      inside;
  more = search rules;
}

half_counter : IsCounter majority thirds 0 1 5 outer_halves 6 last_halves
half_counter = record {
  within = omega arith;
  without = refl;
  shares = (refl, search rules);
  divides = refl;
  as_promised = λ i lt in_q in_p. from_either _ _ _
      (passes_below-at 3
      (λ i. not (has_player 6 i && has_player 5 i)
      || int_le (share outer_halves i *ℤ pos 2) (share last_halves i *ℤ pos 2)) refl i lt)
      (and_both (has_player 6 i) (has_player 5 i) in_q in_p);
  as_before = λ i lt in_q out. from_either _ _ _
      (passes_below-at 3
      (λ i. not (has_player 6 i && not (has_player 5 i))
      || int_le (share thirds i *ℤ pos 2) (share last_halves i *ℤ pos 3)) refl i lt)
      (and_both (has_player 6 i) (not (has_player 5 i)) in_q (ap not out));
}

not_twice : ¬ IsGreatestExcess Plain majority thirds (pos 2)
not_twice h = omega (arith, ints, greatest_of_thirds.1 h.0.0 h.0.1, h.0.2)

pub majority_objections : MajorityObjections
majority_objections = (
  (search rules, λ more. omega (arith, ints, more)),
  (search rules, λ le. omega (arith, ints, le)),
  ((pos 1, pos 0, second_surplus, first_surplus, search rules), nobody_outweighs),
  (objection, no_objection),
  (half_objection, half_counter, no_counter),
  (prenucleolus_counters majority thirds (majority_gets_thirds Preimputations Plain), not_countered),
  (greatest_of_thirds, not_twice),
)
