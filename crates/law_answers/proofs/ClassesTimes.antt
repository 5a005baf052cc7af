-- What each class makes of k times its numbers is k times its worths.
use Rattle.std.proofs.Common.{◌≡◌, ℕ, zero, suc, ◌-◌, ◌*◌, ◌<◌, ◌≤◌, Bool, true, false, cond, max, nat_eq, List, []}
use Rattle.std.proofs.Common.{◌∷◌, length, map, get_or, ℤ, pos, neg_ℤ, ◌-ℤ◌, ◌*ℤ◌, ◌≤ℤ◌, refl, sym, ap, ap₂, ◌∙◌, inl}
use Rattle.std.proofs.Common.{inr, arith}
use Rattle.std.proofs.lemmas.Int.{ints}
use Rattle.std.proofs.lemmas.List.{length-map}
use Rattle.std.proofs.Math.Nat.{le_refl, mul-le-mul}
use Rattle.std.specs.Int.{int_max}
use Rattle.definitions.proofs.Cases.{int_max-cases}
use Rattle.definitions.proofs.Ring.{mul-negℤ, mul-zeroℤ, mul-leℤ}
use Rattle.definitions.proofs.SumsOver.{sum_over-same, sum_over-times}
use Rattle.theorems.proofs.Scaled.{share_times}
use Rattle.definitions.specs.Coalitions.{has_player, grand_coalition, sum_over}
use Rattle.definitions.specs.Classes.{greatest_cost, Matrix, plan_cost, matching_value}
use Rattle.law_answers.specs.CommonScales.{matrix_times, TableTimes, CostTableTimes, AirportTimes, EstateTimes}
use Rattle.law_answers.specs.CommonScales.{TreeTimes}
use Rattle.law_answers.specs.CommonScales.{AssignmentTimes}
use Rattle.theorems.proofs.Products.{products}

-- a product of naturals, as an integer
natural_product : (a b : ℕ) → pos (a * b) ≡ pos a *ℤ pos b
natural_product a b = omega (arith, ints)

-- a number of the list, times k
number_times : (k : ℕ) (xs : List ℕ) (i : ℕ) → i < length xs → get_or (map (λ c. k * c) xs) i 0 ≡ k * get_or xs i 0
number_times k [] i lt = absurd (omega arith)
number_times k (x ∷ xs) zero lt = refl
number_times k (x ∷ xs) (suc i) lt = number_times k xs i (omega arith)

-- ---- tables

pub table_times : TableTimes
table_times k worths s = worth_times (nat_eq s 0)
  where
    worth_times : (b : Bool)
        → cond b (pos 0) (get_or (map (◌*ℤ◌ k) worths) (s - 1) (pos 0))
        ≡ k *ℤ cond b (pos 0) (get_or worths (s - 1) (pos 0))
    worth_times true = sym (mul-zeroℤ k)
    worth_times false = share_times k (record { shares = worths; den = pos 1 }) (s - 1)

pub cost_table_times : CostTableTimes
cost_table_times k v s = sym (mul-negℤ k (v s))

-- ---- airports

max_times : (k a b : ℕ) → max (k * a) (k * b) ≡ k * max a b
max_times k a b = grind arith

if_times : (k c : ℕ) (b : Bool) → cond b (k * c) 0 ≡ k * cond b c 0
if_times k c b = grind arith

greatest_times : (k n : ℕ) (cost more : ℕ → ℕ) (s : ℕ) → ((i : ℕ) → i < n → more i ≡ k * cost i)
    → greatest_cost n more s ≡ k * greatest_cost n cost s
greatest_times k zero cost more s h = omega arith
greatest_times k (suc n) cost more s h =
    ap₂ max (greatest_times k n cost more s (λ i lt. h i (omega arith)))
    (ap (λ (c : ℕ). cond (has_player s n) c 0) (h n (omega arith)) ∙ if_times k (cost n) (has_player s n))
    ∙ max_times k (greatest_cost n cost s) (cond (has_player s n) (cost n) 0)

pub airport_times : AirportTimes
airport_times k costs s =
    let n = length costs in
    let more : ℕ → ℕ = λ i. get_or (map (λ c. k * c) costs) i 0 in
    let cost : ℕ → ℕ = λ i. get_or costs i 0 in
    let g = greatest_cost n cost s in
    ap (λ (m : ℕ). neg_ℤ (pos (greatest_cost m more s))) (length-map costs (λ c. k * c))
    ∙ ap (λ (m : ℕ). neg_ℤ (pos m)) (greatest_times k n cost more s (number_times k costs))
    ∙ ap neg_ℤ (natural_product k g)
    ∙ sym (mul-negℤ (pos k) (pos g))

-- ---- estates

max_times-integer : (k a : ℤ) → pos 0 ≤ℤ k → int_max (pos 0) (k *ℤ a) ≡ k *ℤ int_max (pos 0) a
max_times-integer k a p = elim (int_max-cases (pos 0) a) [
  | inl low ↦
      let here : k *ℤ int_max (pos 0) a ≡ pos 0 = ap (◌*ℤ◌ k) low.0 ∙ mul-zeroℤ k in
      elim (int_max-cases (pos 0) (k *ℤ a)) [
        | inl b ↦ b.0 ∙ sym here
        | inr b ↦
            (omega (products, b.0, b.1, mul-leℤ k a (pos 0) p low.1, here))
      ]
  | inr high ↦
      let here : k *ℤ int_max (pos 0) a ≡ k *ℤ a = ap (◌*ℤ◌ k) high.0 in
      elim (int_max-cases (pos 0) (k *ℤ a)) [
        | inl b ↦
            (omega (products, b.0, b.1, mul-leℤ k (pos 0) a p high.1, here))
        | inr b ↦ b.0 ∙ sym here
      ]
]

pub estate_times : EstateTimes
estate_times k estate claims s =
    let n = length claims in
    let more : ℕ → ℤ = λ i. pos (get_or (map (λ c. k * c) claims) i 0) in
    let claim : ℕ → ℤ = λ i. pos (get_or claims i 0) in
    let others = grand_coalition n - s in
    let left = pos estate -ℤ sum_over n claim others in
    let sums : sum_over n more others ≡ pos k *ℤ sum_over n claim others =
    sum_over-same n more (λ i. pos k *ℤ claim i) others
    (λ i lt. ap pos (number_times k claims i lt) ∙ natural_product k (get_or claims i 0))
    ∙ sum_over-times n claim (pos k) others in
    let whole : pos (k * estate) -ℤ sum_over n more others ≡ pos k *ℤ left =
    omega (products, sums, natural_product k estate)
    in
    ap (λ (m : ℕ). int_max (pos 0) (pos (k * estate) -ℤ sum_over m more (grand_coalition m - s)))
    (length-map claims (λ c. k * c))
    ∙ ap (int_max (pos 0)) whole
    ∙ max_times-integer (pos k) left (omega (arith, ints))

-- ---- trees and markets

plan_times : (k : ℕ) (matrix : Matrix) (plan : List (ℕ × ℕ))
    → plan_cost (matrix_times k matrix) plan ≡ k * plan_cost matrix plan
plan_times k matrix [] = omega arith
plan_times k matrix (p ∷ plan) = omega (arith, plan_times k matrix plan)

matching_times : (k : ℕ) (matrix : Matrix) (ps : List (ℕ × ℕ))
    → matching_value (matrix_times k matrix) ps ≡ k * matching_value matrix ps
matching_times k matrix [] = omega arith
matching_times k matrix (p ∷ ps) = omega (arith, matching_times k matrix ps)

least_times : (k a b : ℕ) → a ≤ b → k * a ≤ k * b
least_times k a b le = mul-le-mul (le_refl k) le

pub tree_times : TreeTimes
tree_times k matrix g h s lt =
    let found = h s lt in
    let cost = found.0 in
    let least = found.2 in (
      k * cost,
      ap (◌*ℤ◌ (pos k)) found.1 ∙ mul-negℤ (pos k) (pos cost) ∙ ap neg_ℤ (sym (natural_product k cost)),
      record {
        reached = (
          least.reached.0,
          least.reached.1,
          ap (λ (c : ℕ). k * c) least.reached.2 ∙ sym (plan_times k matrix least.reached.0),
        );
        least = λ plan p.
            (let e = plan_times k matrix plan in
            let le = least_times k cost (plan_cost matrix plan) (least.least plan p) in omega (arith, e, le));
      },
    )

pub assignment_times : AssignmentTimes
assignment_times k matrix rows g h s lt =
    let found = h s lt in
    let value = found.0 in
    let best = found.2 in (
      k * value,
      ap (◌*ℤ◌ (pos k)) found.1 ∙ sym (natural_product k value),
      record {
        reached = (
          best.reached.0,
          best.reached.1,
          ap (λ (c : ℕ). k * c) best.reached.2 ∙ sym (matching_times k matrix best.reached.0),
        );
        greatest = λ ps p.
            (let e = matching_times k matrix ps in
            let le = least_times k (matching_value matrix ps) value (best.greatest ps p) in omega (arith, e, le));
      },
    )
