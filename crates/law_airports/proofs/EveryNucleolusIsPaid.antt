-- Every nucleolus has the shares of payments over another denominator, so it is payments.
use Rattle.std.proofs.Common.{◌≡◌, ℕ, zero, suc, ◌<◌, ◌≤◌, ◌^◌, List, length, get_or, ℤ, pos, ◌+ℤ◌, ◌*ℤ◌, neg_ℤ, ◌≤ℤ◌}
use Rattle.std.proofs.Common.{◌<ℤ◌, sym, ap, ◌∙◌, arith}
use lib.IntN.{neg_ℤ-neg_ℤ}
use Rattle.definitions.proofs.Families.{allocation_of}
use Rattle.definitions.proofs.Ring.{linear, mul-leℤ, mul-le_cancelℤ, mul-lt_cancelℤ, mul-ltℤ, mul-cancelℤ, mul-zeroℤ}
use Rattle.definitions.proofs.Ring.{mul_left_commℤ}
use Rattle.definitions.specs.Sums.{sum_below}
use Rattle.definitions.specs.Coalitions.{grand_coalition, sum_over}
use Rattle.definitions.specs.Classes.{greatest_cost}
use Rattle.definitions.specs.Games.{Allocation, share, IsNucleolus}
use Rattle.definitions.specs.declared.Family.{Family}
use Rattle.definitions.specs.declared.Measure.TheVariants.{Plain}
use Rattle.orders.specs.Orders.{IsOrder}
use Rattle.airport_scheme.specs.Scheme.{IsScheme, IsPaid}
use Rattle.airport_scheme.proofs.Excesses.{game_of}
use Rattle.law_answers.specs.Airports.{pays}
use Rattle.law_answers.proofs.NucleolusIsUnique.{nucleolus_unique}
use Rattle.law_answers.proofs.LittlechildPayments.{group, all_pay, nobody_more}
use Rattle.law_airports.proofs.OrdersExist.{order_exists}
use Rattle.law_airports.proofs.PaymentsExist.{payments_exist}
use Rattle.law_airports.proofs.PaymentsAreTheNucleolus.{payments_nucleolus}
use Rattle.theorems.proofs.Products.{products, sorted_products}

-- ---- the same payments over another denominator

module _ (n : ℕ) (c : ℕ → ℕ) (pay more : ℕ → ℤ) (p q : ℤ) (h : IsScheme n c pay p) (one : pos 1 ≤ℤ q)
    (same : (k : ℕ) → k < n → p *ℤ more k ≡ q *ℤ pay k) where
  p_positive : pos 0 <ℤ p
  p_positive = omega (arith, linear, h.positive)

  sums : (k : ℕ) → k ≤ n → p *ℤ sum_below k more ≡ q *ℤ sum_below k pay
  sums zero le = mul-zeroℤ p ∙ sym (mul-zeroℤ q)
  sums (suc k) le = omega (products, sums k (omega arith), same k (omega arith))

  -- p times q times a cost
  costs_times : (k : ℕ) → q *ℤ (p *ℤ pos (c k)) ≡ p *ℤ (q *ℤ pos (c k))
  costs_times k = mul_left_commℤ q p (pos (c k))

  with_own : (k : ℕ) → k < n → p *ℤ (sum_below (suc k) more +ℤ more k) ≡ q *ℤ (sum_below (suc k) pay +ℤ pay k)
  with_own k lt = omega (products, sums (suc k) lt, same k lt)

  pub scheme_over : IsScheme n c more q
  scheme_over = record {
    positive = one;
    least = λ k lt.
        mul-le_cancelℤ p (pos 0) (more k) p_positive
        (omega (products, mul-leℤ q (pos 0) (pay k) (omega (arith, linear, one)) (h.least k lt), same k lt));
    rises = λ j k lt le.
        mul-le_cancelℤ p (more j) (more k) p_positive
        (let up = mul-leℤ q (pay j) (pay k) (omega (arith, linear, one)) (h.rises j k lt le) in
        omega (arith, linear, up, same j (omega arith), same k le));
    under = λ k lt.
        mul-le_cancelℤ p (sum_below (suc k) more +ℤ more k) (q *ℤ pos (c k)) p_positive
        (let up =
        mul-leℤ q (sum_below (suc k) pay +ℤ pay k) (p *ℤ pos (c k)) (omega (arith, linear, one)) (h.under k lt) in
        omega (arith, linear, up, with_own k (omega arith), costs_times k));
    tight = λ k lt up.
        mul-cancelℤ p (sum_below (suc k) more +ℤ more k) (q *ℤ pos (c k)) p_positive
        (with_own k (omega arith) ∙ ap (◌*ℤ◌ q) (h.tight k lt (risen k lt up)) ∙ costs_times k);
    all = λ k e.
        mul-cancelℤ p (sum_below n more) (q *ℤ pos (c k)) p_positive
        (sums n (omega arith) ∙ ap (◌*ℤ◌ q) (h.all k e) ∙ costs_times k);
  }
    where
      risen : (k : ℕ) → suc k < n → more k <ℤ more (suc k) → pay k <ℤ pay (suc k)
      risen k lt up =
          mul-lt_cancelℤ q (pay k) (pay (suc k)) (omega (arith, linear, one))
          (let m = mul-ltℤ p (more k) (more (suc k)) p_positive up in
          omega (arith, linear, m, same k (omega arith), same (suc k) lt))

-- ---- every nucleolus

pub nucleolus_paid : (family : Family) (costs : List ℕ) (at : ℕ → ℕ) (y : Allocation)
    → IsOrder (length costs) (λ k. get_or costs k 0) at → IsNucleolus family Plain (game_of costs) y
    → (pay : ℕ → ℤ) × IsPaid costs at pay y
nucleolus_paid family costs at y o h =
    let n = length costs in
    let made = payments_exist costs at o in
    let pay = made.0 in
    let x = made.1 in
    let p = made.2 in
    let one = nucleolus_unique family Plain (game_of costs) x y (payments_nucleolus family costs at pay x p) h in
    let allocation = allocation_of family (game_of costs) y h.0 in
    let same : (k : ℕ) → k < n → x.den *ℤ neg_ℤ (share y (at k)) ≡ y.den *ℤ pay k =
    λ k lt. turned (share x (at k)) (share y (at k)) (pay k) x.den y.den (one (at k) (o.below k lt)) (p.shares k lt)
    in (
      λ k. neg_ℤ (share y (at k)),
      record {
        order = o;
        players = allocation.0;
        shares = λ k lt. sym (neg_ℤ-neg_ℤ (share y (at k)));
        scheme =
            scheme_over n (λ k. get_or costs (at k) 0) pay (λ k. neg_ℤ (share y (at k))) x.den y.den p.scheme
            allocation.1 same;
      },
    )
  where
    turned : (a b z p q : ℤ) → a *ℤ q ≡ b *ℤ p → a ≡ neg_ℤ z → p *ℤ neg_ℤ b ≡ q *ℤ z
    turned a b z p q e f = omega (sorted_products, e, ap (λ (u : ℤ). u *ℤ q) f)

-- ---- the laws of payments

module _ (family : Family) (costs : List ℕ) (x : Allocation) (h : IsNucleolus family Plain (game_of costs) x) where
  in_order : (at : ℕ → ℕ) × IsOrder (length costs) (λ k. get_or costs k 0) at
  in_order = order_exists (length costs) (λ k. get_or costs k 0)

  paid : (pay : ℕ → ℤ) × IsPaid costs in_order.0 pay x
  paid = nucleolus_paid family costs in_order.0 x in_order.1 h

  pub nucleolus_group : (s : ℕ) → s < 2 ^ length costs
      → sum_over (length costs) (pays x) s
      ≤ℤ (x.den *ℤ pos (greatest_cost (length costs) (λ k. get_or costs k 0) s))
  nucleolus_group s lt = group costs in_order.0 paid.0 x paid.1 s lt

  pub nucleolus_all : sum_below (length costs) (pays x)
      ≡ x.den *ℤ pos (greatest_cost (length costs) (λ k. get_or costs k 0) (grand_coalition (length costs)))
  nucleolus_all = all_pay costs in_order.0 paid.0 x paid.1

  pub nucleolus_nobody : (i : ℕ) → i < length costs
      → (pos 0 ≤ℤ pays x i) × (pays x i ≤ℤ (x.den *ℤ pos (get_or costs i 0)))
  nucleolus_nobody i lt = nobody_more costs in_order.0 paid.0 x paid.1 i lt
