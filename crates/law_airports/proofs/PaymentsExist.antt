-- In each order of the players by their costs there are payments: those of the scheme, looked up by place. If there
-- are no players, nobody pays.
use Rattle.std.proofs.Common.{◌≡◌, ℕ, zero, suc, ◌<◌, ◌≤◌, cond, nat_eq, List, [], length, get_or, map, ℤ, pos, neg_ℤ}
use Rattle.std.proofs.Common.{refl, sym, ◌∙◌, inl, inr, arith}
use Rattle.std.specs.List.{range_with_len}
use Rattle.std.proofs.lemmas.List.FromFn.{get_or-map-range_with_len, length-map-range_with_len}
use Rattle.definitions.proofs.Cases.{same_or_other, less_or_last, nat_eq-same, nat_eq-other}
use Rattle.definitions.proofs.Ring.{linear}
use Rattle.definitions.specs.Games.{Allocation}
use Rattle.orders.specs.Orders.{IsOrder}
use Rattle.airport_scheme.specs.Scheme.{IsPaid}
use Rattle.law_airports.proofs.SchemesExist.{scheme_exists}

-- minus the payment of the last of m places where player i stands
share_from : (ℕ → ℕ) → (ℕ → ℤ) → ℕ → ℕ → ℤ
share_from at pay zero i = pos 0
share_from at pay (suc m) i = cond (nat_eq (at m) i) (neg_ℤ (pay m)) (share_from at pay m i)

share_from-place : (n : ℕ) (number at : ℕ → ℕ) (pay : ℕ → ℤ) → IsOrder n number at → (m k : ℕ) → m ≤ n → k < m
    → share_from at pay m (at k) ≡ neg_ℤ (pay k)
unfolding share_from
share_from-place n number at pay o zero k le lt = absurd (omega arith)
share_from-place n number at pay o (suc m) k le lt = elim (less_or_last k m lt) [
  | inl less ↦
      rw (nat_eq-other (at m) (at k) (λ e. o.apart k m less (omega arith) (sym e)))
      (share_from-place n number at pay o m k (omega arith) less)
  | inr same ↦ rw same (rw (nat_eq-same (at m)) refl)
]

some_exist : (costs : List ℕ) (at : ℕ → ℕ) → 1 ≤ length costs
    → IsOrder (length costs) (λ k. get_or costs k 0) at → (pay : ℕ → ℤ) × (x : Allocation) × IsPaid costs at pay x
some_exist costs at some o =
    let n = length costs in
    let scheme = scheme_exists n (λ k. get_or costs (at k) 0) some in
    let f = share_from at scheme.0 n in
    let x : Allocation = record { shares = map f (range_with_len 0 n); den = scheme.1 } in (
      scheme.0,
      x,
      record {
        order = o;
        players = length-map-range_with_len f 0 n;
        shares = λ k lt.
            get_or-map-range_with_len f 0 n (at k) (at k) (pos 0) (o.below k lt) (omega arith)
            ∙ share_from-place n (λ k. get_or costs k 0) at scheme.0 o n k (omega arith) lt;
        scheme = scheme.2;
      },
    )

nobody_pays : (costs : List ℕ) (at : ℕ → ℕ) → length costs ≡ 0 → IsOrder (length costs) (λ k. get_or costs k 0) at
    → (pay : ℕ → ℤ) × (x : Allocation) × IsPaid costs at pay x
nobody_pays costs at none o = (
  λ k. pos 0,
  record { shares = []; den = pos 1 },
  record {
    order = o;
    players = sym none;
    shares = λ k lt. absurd (omega (arith, none));
    scheme = record {
      positive = omega (arith, linear);
      least = λ k lt. absurd (omega (arith, none));
      rises = λ j k lt le. absurd (omega (arith, none));
      under = λ k lt. absurd (omega (arith, none));
      tight = λ k lt more. absurd (omega (arith, none));
      all = λ k e. absurd (omega (arith, none));
    };
  },
)

pub payments_exist : (costs : List ℕ) (at : ℕ → ℕ) → IsOrder (length costs) (λ k. get_or costs k 0) at
    → (pay : ℕ → ℤ) × (x : Allocation) × IsPaid costs at pay x
payments_exist costs at o = elim (same_or_other (length costs) 0) [
  | inl none ↦ nobody_pays costs at none o
  | inr some ↦ some_exist costs at (omega (arith, some)) o
]
