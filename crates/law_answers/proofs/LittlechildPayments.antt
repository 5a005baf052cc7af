-- What Littlechild's payments promise: they rise with the costs, and equal costs pay the same.
--
-- If the second of two places with one cost paid more, the first would leave no room. The players up to a place pay at
-- most the cost there, and all players the greatest cost.
use Rattle.std.proofs.Common.{◌≡◌, ℕ, zero, suc, ◌+◌, ◌-◌, ◌^◌, ◌<◌, ◌≤◌, true, List, length, get_or, ℤ, pos, ◌*ℤ◌}
use Rattle.std.proofs.Common.{◌≤ℤ◌, neg_ℤ, sym, ap, ◌∙◌, inl, inr, arith}
use Rattle.std.proofs.lemmas.Bool.{false≢true}
use Rattle.std.proofs.lemmas.Int.{by_lt_z}
use Rattle.definitions.proofs.Cases.{less_same_or_greater, same_or_other, next_or_last}
use Rattle.definitions.proofs.Masks.{singleton-within}
use Rattle.definitions.proofs.Members.{has_player-singleton_other, sum_over-grand_coalition, sum_over-singleton}
use Rattle.definitions.proofs.Ring.{linear, mul-leℤ}
use Rattle.definitions.specs.Sums.{sum_below}
use Rattle.definitions.specs.Coalitions.{has_player, singleton, grand_coalition, sum_over}
use Rattle.definitions.specs.Classes.{greatest_cost}
use Rattle.definitions.specs.Games.{Allocation, amount}
use Rattle.orders.proofs.Fronts.{order-place}
use Rattle.airport.proofs.Excesses.{sum_over-paid}
use Rattle.airport.proofs.GreatestCosts.{greatest_cost-at_most}
use Rattle.airport_scheme.specs.Scheme.{IsScheme, IsPaid}
use Rattle.law_answers.specs.Airports.{pays}
use Rattle.airport_scheme.proofs.Chains.{InCore-scheme}
use Rattle.theorems.proofs.Products.{products}

-- ---- by place

module _ (n : ℕ) (c : ℕ → ℕ) (pay : ℕ → ℤ) (den : ℤ) (h : IsScheme n c pay den)
    (rising : (j k : ℕ) → j < k → k < n → c j ≤ c k) where
  -- of two places in a row with the same cost, the second pays no more
  one_on : (m : ℕ) → suc m < n → c m ≡ c (suc m) → pay (suc m) ≤ℤ pay m
  one_on m lt same =
      by_lt_z (pay m) (pay (suc m))
      (λ more.
      let tight = h.tight m lt more in
      let least = h.least (suc m) lt in
      let costs = ap (λ (k : ℕ). den *ℤ pos k) same in
      elim (next_or_last (suc m) n lt) [
        | inl next ↦
            let under = h.under (suc m) next in absurd (omega (arith, linear, tight, least, costs, under, more))
        | inr end ↦
            let all = h.all (suc m) end in
            absurd (omega (arith, linear, tight, least, costs, all, ap (λ (k : ℕ). sum_below k pay) end, more))
      ])
      (λ le. le)

  -- and of any two
  flat : (l d : ℕ) → l + d < n → c l ≡ c (l + d) → pay (l + d) ≤ℤ pay l
  flat l zero lt same =
      let here : l + 0 ≡ l = omega arith in
      omega (arith, linear, ap pay here)
  flat l (suc d) lt same =
      let next : l + suc d ≡ suc (l + d) = omega arith in
      let up = rising (l + d) (l + suc d) (omega arith) lt in
      let low = from l d (omega arith) in
      let one : c (l + d) ≡ c (suc (l + d)) = (let e = ap c next in omega (arith, up, low, same, e)) in
      omega
      (products, flat l d (omega arith) (omega (arith, up, low, same)), one_on (l + d) (omega arith) one, ap pay next)
    where
      from : (l d : ℕ) → l + d < n → c l ≤ c (l + d)
      from l zero lt = let here : l + 0 ≡ l = omega arith in rw here (omega arith)
      from l (suc d) lt = rising l (l + suc d) (omega arith) lt

  by_cost : (k l : ℕ) → k < n → l < n → c k ≤ c l → pay k ≤ℤ pay l
  by_cost k l hk hl le = elim (less_same_or_greater k l) [
    | inl lt ↦ h.rises k l lt hl
    | inr (inl same) ↦ omega (arith, linear, ap pay same)
    | inr (inr gt) ↦
        let there : l + (k - l) ≡ k = omega arith in
        let same : c l ≡ c (l + (k - l)) = (omega (arith, le, rising l k gt hk, ap c there)) in
        omega (arith, linear, flat l (k - l) (omega arith) same, ap pay there)
  ]

-- ---- by player

module _ (costs : List ℕ) (at : ℕ → ℕ) (pay : ℕ → ℤ) (x : Allocation) (p : IsPaid costs at pay x) where
  pays-at : (k : ℕ) → k < length costs → pays x (at k) ≡ pay k
  pays-at k lt = let e = p.shares k lt in omega (arith, linear, e)

  pub needs_more : (i j : ℕ) → i < length costs → j < length costs → get_or costs i 0 ≤ get_or costs j 0
      → pays x i ≤ℤ pays x j
  needs_more i j hi hj le =
      let a = order-place (length costs) (λ k. get_or costs k 0) at p.order i hi in
      let b = order-place (length costs) (λ k. get_or costs k 0) at p.order j hj in
      let costs_at = λ (k : ℕ). get_or costs (at k) 0 in
      let low : get_or costs (at a.0) 0 ≤ get_or costs (at b.0) 0 = rw (a.2, b.2) le in
      let e = by_cost (length costs) (λ k. get_or costs (at k) 0) pay x.den p.scheme p.order.rising a.0 b.0 a.1 b.1
      low in
      omega (arith, linear, e, pays-at a.0 a.1, pays-at b.0 b.1, ap (pays x) a.2, ap (pays x) b.2)

  some_group : (s : ℕ) → 1 ≤ length costs → s < 2 ^ length costs
      → sum_over (length costs) (pays x) s
      ≤ℤ (x.den *ℤ pos (greatest_cost (length costs) (λ k. get_or costs k 0) s))
  some_group s some lt =
      let core = InCore-scheme costs at pay x some p in
      let g = greatest_cost (length costs) (λ k. get_or costs k 0) s in
      by_lt_z (amount x s) (x.den *ℤ neg_ℤ (pos g))
      (λ blocks. absurd (core.2 s lt blocks))
      (λ le. omega (products, le, sum_over-paid (length costs) x s p.players))

  pub group : (s : ℕ) → s < 2 ^ length costs
      → sum_over (length costs) (pays x) s
      ≤ℤ (x.den *ℤ pos (greatest_cost (length costs) (λ k. get_or costs k 0) s))
  group s lt = elim (same_or_other (length costs) 0) [
    | inl none ↦
        let left = ap (λ (n : ℕ). sum_over n (pays x) s) none in
        omega (products, left, ap (λ (n : ℕ). x.den *ℤ pos (greatest_cost n (λ k. get_or costs k 0) s)) none)
    | inr some ↦ some_group s (omega (arith, some)) lt
  ]

  some_all_pay : 1 ≤ length costs
      → sum_below (length costs) (pays x)
      ≡ x.den *ℤ pos (greatest_cost (length costs) (λ k. get_or costs k 0) (grand_coalition (length costs)))
  some_all_pay some =
      let core = InCore-scheme costs at pay x some p in
      let all = grand_coalition (length costs) in
      let g = greatest_cost (length costs) (λ k. get_or costs k 0) all in
      omega (
        products,
        sum_over-grand_coalition (length costs) (pays x),
        sum_over-paid (length costs) x all p.players,
        core.1,
      )

  pub all_pay : sum_below (length costs) (pays x)
      ≡ x.den *ℤ pos (greatest_cost (length costs) (λ k. get_or costs k 0) (grand_coalition (length costs)))
  all_pay = elim (same_or_other (length costs) 0) [
    | inl none ↦
        let all = grand_coalition (length costs) in
        let left = ap (λ (n : ℕ). sum_below n (pays x)) none in
        omega (products, left, ap (λ (n : ℕ). x.den *ℤ pos (greatest_cost n (λ k. get_or costs k 0) all)) none)
    | inr some ↦ some_all_pay (omega (arith, some))
  ]

  pub nobody_more : (i : ℕ) → i < length costs
      → (pos 0 ≤ℤ pays x i) × (pays x i ≤ℤ (x.den *ℤ pos (get_or costs i 0)))
  nobody_more i lt =
      let a = order-place (length costs) (λ k. get_or costs k 0) at p.order i lt in
      let least = p.scheme.least a.0 a.1 in
      let alone = group (singleton i) (singleton-within (length costs) i lt) in
      let one = sum_over-singleton (length costs) i (pays x) lt in
      let cost = greatest_cost-at_most (length costs) (λ k. get_or costs k 0) (singleton i) (get_or costs i 0)
      (λ k h has. only k has) in
      let scaled = mul-leℤ x.den (pos (greatest_cost (length costs) (λ k. get_or costs k 0) (singleton i)))
      (pos (get_or costs i 0)) positive (omega (arith, linear, cost)) in
      (omega (arith, linear, least, pays-at a.0 a.1, ap (pays x) a.2), omega (arith, linear, alone, one, scaled))
    where
      positive : pos 0 ≤ℤ x.den
      positive = omega (arith, linear, p.scheme.positive)

      only : (k : ℕ) → has_player (singleton i) k ≡ true → get_or costs k 0 ≤ get_or costs i 0
      only k has = elim (same_or_other k i) [
        | inl same ↦ rw same (omega arith)
        | inr other ↦ absurd (false≢true (sym (has_player-singleton_other i k other) ∙ has))
      ]
