-- Whatever shares are payments, the levels of their blocks certify them, so they are the nucleolus. If there are no
-- players, all shares are the same.
--
-- The levels of the blocks (PaymentLevels.antt) have the form of a certificate except for the sizes of lists and
-- weights, of which the theorem asks nothing (`IsNucleolusOver-from_levels` of real_shares). The other way is
-- EveryNucleolusIsPaid.antt: the five facts of the scheme don't depend on the denominator.
use Rattle.std.proofs.Common.{◌≡◌, ℕ, ◌≤◌, List, length, get_or, ℤ, pos, neg_ℤ, ◌*ℤ◌, refl, sym, ap, ◌∙◌, inl, inr}
use Rattle.std.proofs.Common.{arith}
use Rattle.definitions.proofs.Cases.{same_or_other}
use Rattle.definitions.proofs.Ring.{mul-zeroℤ}
use Rattle.definitions.specs.Coalitions.{grand_coalition, sum_over}
use Rattle.definitions.specs.Classes.{greatest_cost}
use Rattle.definitions.specs.Games.{Allocation, share, IsSame, InFamily, IsEfficient, IsNucleolus}
use Rattle.definitions.specs.declared.Family.{Family}
use Rattle.definitions.specs.declared.Family.TheVariants.{Imputations, Preimputations}
use Rattle.definitions.specs.declared.Measure.TheVariants.{Plain}
use Rattle.definitions.specs.declared.Mode.TheVariants.{Players}
use Rattle.real_shares.specs.Theorems.{fractions_over}
use Rattle.real_shares.proofs.FractionShares.{fractions_ordered, fraction_shares}
use Rattle.real_shares.proofs.Soundness.{IsNucleolusOver-from_levels}
use Rattle.airport_scheme.specs.Scheme.{IsPaid}
use Rattle.airport_scheme.proofs.Excesses.{game_of}
use Rattle.airport_scheme.proofs.Chains.{Covers-none, Certifies-chain}
use Rattle.law_answers.proofs.NucleolusIsUnique.{nucleolus_unique}
use Rattle.law_airports.proofs.PaymentLevels.{levels_exist, levels_fit}

some_nucleolus : (family : Family) (costs : List ℕ) (at : ℕ → ℕ) (pay : ℕ → ℤ) (x : Allocation)
    → 1 ≤ length costs → IsPaid costs at pay x → IsNucleolus family Plain (game_of costs) x
some_nucleolus family costs at pay x some p =
    let n = length costs in
    let cost = λ (k : ℕ). get_or costs k 0 in
    let made = levels_exist n (λ k. get_or costs (at k) 0) at pay x.den p.scheme in
    let fits = levels_fit n (λ k. get_or costs k 0) at pay x.den 0 made.1 _ made.0 p.order made.2 (Covers-none n at) in
    let certifies = Certifies-chain family costs at pay x made.1 made.0 some p made.2 made.3 in
    (fraction_shares family Plain (game_of costs) x).1
    (λ q one. IsNucleolusOver-from_levels (fractions_over q) (fractions_ordered q one) Players family Plain
    (game_of costs) x made.0 (inl refl) fits certifies)

-- ---- no players

module _ (costs : List ℕ) (at : ℕ → ℕ) (pay : ℕ → ℤ) (x : Allocation) (none : length costs ≡ 0)
    (p : IsPaid costs at pay x) where
  nobody_efficient : IsEfficient (game_of costs) x
  nobody_efficient =
      let all = grand_coalition (length costs) in
      let worth = ap (λ (n : ℕ). neg_ℤ (pos (greatest_cost n (λ k. get_or costs k 0) all))) none in
      ap (λ (n : ℕ). sum_over n (share x) all) (p.players ∙ none)
      ∙ sym (ap (◌*ℤ◌ x.den) worth ∙ mul-zeroℤ x.den)

  nobody_in_family : (family : Family) → InFamily family (game_of costs) x
  nobody_in_family Imputations =
      ((p.players, p.scheme.positive), nobody_efficient, λ i lt. absurd (omega (arith, none)))
  nobody_in_family Preimputations = ((p.players, p.scheme.positive), nobody_efficient)

  nobody_nucleolus : (family : Family) → IsNucleolus family Plain (game_of costs) x
  nobody_nucleolus family =
      (nobody_in_family family, λ y h differs. absurd (differs (λ i lt. absurd (omega (arith, none)))))

pub payments_nucleolus : (family : Family) (costs : List ℕ) (at : ℕ → ℕ) (pay : ℕ → ℤ) (x : Allocation)
    → IsPaid costs at pay x → IsNucleolus family Plain (game_of costs) x
payments_nucleolus family costs at pay x p = elim (same_or_other (length costs) 0) [
  | inl none ↦ nobody_nucleolus costs at pay x none p family
  | inr some ↦ some_nucleolus family costs at pay x (omega (arith, some)) p
]

pub payments_one : (costs : List ℕ) (at to : ℕ → ℕ) (pay more : ℕ → ℤ) (x y : Allocation) → IsPaid costs at pay x
    → IsPaid costs to more y → IsSame (game_of costs) x y
payments_one costs at to pay more x y p q =
    nucleolus_unique Preimputations Plain (game_of costs) x y (payments_nucleolus Preimputations costs at pay x p)
    (payments_nucleolus Preimputations costs to more y q)
