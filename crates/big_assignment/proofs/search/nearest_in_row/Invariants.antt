use Rattle.std.proofs.Common.{◌≡◌, ◌⊎◌, ℕ, ◌+◌, ◌<◌, ◌≤◌}
use Rattle.big_assignment.specs.declared.deal.Deal.{Deal}
use Rattle.big_assignment.specs.declared.deal.Search.{Search}
use Rattle.big_assignment.specs.Deals.{gain_of, offer_of, price_of}
use Rattle.big_assignment.specs.Searches.{rank_of}
use Rattle.big_assignment.proofs.search.nearest_in_row.Given as goal

pub record IsImprovedSoFar (deal : Deal) (search : Search) (n i : ℕ) (best found : ℕ × ℕ) (k : ℕ) : Type 0 where
  pub row : found.0 ≤ n
  pub chosen : ((found.0 ≡ best.0) × (found.1 ≡ best.1)) ⊎ (found.0 ≡ i)
  pub column : found.1 ≤ 32
  pub unreached : rank_of search found.1 ≡ 0
  pub no_worse : gain_of deal found.0 + price_of deal found.1 + offer_of deal best.0 best.1
      ≤ gain_of deal best.0 + price_of deal best.1 + offer_of deal found.0 found.1
  pub least : (j : ℕ) → j < k → rank_of search j ≡ 0
      → gain_of deal found.0 + price_of deal found.1 + offer_of deal i j
      ≤ gain_of deal i + price_of deal j + offer_of deal found.0 found.1

abbrev pub invariant-loop-k : goal.invariant-loop-k
invariant-loop-k l = IsImprovedSoFar l.deal l.search l.n l.i l.fn.best l.nearest l.k
