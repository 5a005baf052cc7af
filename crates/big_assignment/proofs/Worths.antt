-- The worth of a coalition is what all players of its members' market get.
use Rattle.std.proofs.Common.{◌≡◌, ℕ, zero, suc, ◌+◌, ◌-◌, ◌^◌, ◌<◌, ◌≤◌, Bool}
use Rattle.std.proofs.Common.{true, List}
use Rattle.std.proofs.Common.{length, ℤ, refl, sym, ◌∙◌, inl, inr, arith}
use Rattle.definitions.specs.Coalitions.{has_player}
use Rattle.assignment_games.specs.Values.{optimal_value}
use Rattle.big_assignment.specs.Mates.{payoff, total_below}
use Rattle.big_assignment.specs.Markets.{IsMarket, offered}
use Rattle.assignment_games.specs.Assignments.{seller_count}
use Rattle.matrices.specs.Rows.{entries_of}
use Rattle.big_assignment.specs.declared.deal.Deal.{Deal}
use Rattle.big_assignment.specs.Deals.{AreDealOffers, IsFair, gain_of, mate_of, offer_of, price_of}
use Rattle.definitions.proofs.Members.{has_player-grand_coalition}
use Rattle.definitions.proofs.Cases.{below_or_above, nat_lt-past}
use Rattle.big_assignment.proofs.Sums.{sum_where}
use Rattle.big_assignment.proofs.Searches.{fair_price}
use Rattle.big_assignment.proofs.Supports.{all_of, fair_supports, payoff-row}
use Rattle.assignment_games.proofs.Optimal.{same_optimal}
use Rattle.big_assignment.proofs.Members.{members_optimal}
use Rattle.assignment_games.proofs.Games.{worth_optimal}
use Rattle.big_assignment.proofs.Games.{table_of_members}

pub sum_where-total : (n : ℕ) (w : ℕ → Bool) (x : ℕ → ℕ) → ((k : ℕ) → k < n → w k ≡ true)
    → sum_where n w x ≡ total_below n x
sum_where-total zero w x h = refl
sum_where-total (suc n) w x h =
    rw (h n (omega arith)) (let ih = sum_where-total n w x (λ k lt. h k (omega arith)) in omega arith)

pub sum_all : (n : ℕ) (x : ℕ → ℕ) → sum_where n (all_of n) x ≡ total_below n x
sum_all n x = sum_where-total n (all_of n) x (has_player-grand_coalition n)

pub worth_total : (d : Deal) (rows : List (List ℤ)) (s : ℕ) → IsMarket rows
    → s < 2 ^ (length rows + seller_count rows)
    → ((i j : ℕ) → i < 32 → j ≤ 32 → offer_of d i j ≡ offered (entries_of rows) (length rows) s i j)
    → IsFair d (length rows)
    → total_below (length rows + seller_count rows) (payoff (length rows) (gain_of d) (price_of d))
    ≡ optimal_value (entries_of rows) (length rows) (seller_count rows) (length rows) (has_player s)
worth_total d rows s k small h f =
    let r = length rows in
    let c = seller_count rows in
    let x = payoff r (gain_of d) (price_of d) in
    let sup = fair_supports d (offered (entries_of rows) r s) r c (table_of_members (offer_of d) rows s k h) f in
    sym (sum_all (r + c) x)
    ∙ same_optimal (entries_of rows) r (has_player s) (sum_where (r + c) (all_of (r + c)) x)
    (optimal_value (entries_of rows) r c r (has_player s))
    (members_optimal (entries_of rows) r c s x (mate_of d) small sup) (worth_optimal (entries_of rows) r c s small)

-- no player gets much
pub payoff_small : (d : Deal) (rows k : ℕ) → AreDealOffers d → rows ≤ 32 → IsFair d rows → k < rows + 32
    → payoff rows (gain_of d) (price_of d) k ≤ 2 ^ 40
payoff_small d rows k o few f lt = elim (below_or_above k rows) [
  | inl row ↦
      (let a = f.tight k row in
      let b = o.small k (mate_of d k) (omega arith) (f.within k row) in
      let e = payoff-row rows (gain_of d) (price_of d) k row in omega arith)
  | inr ge ↦ rw (nat_lt-past k rows ge) (fair_price d rows o few f (k - rows) (omega arith))
]
