use Rattle.std.proofs.Common.{◌≡◌, ℕ, ◌+◌, ◌<◌, ◌≤◌}
use Rattle.big_assignment.specs.declared.deal.Deal.{Deal}
use Rattle.big_assignment.specs.declared.deal.Search.{Search}
use Rattle.big_assignment.specs.Deals.{gain_of, offer_of, price_of}
use Rattle.big_assignment.specs.Searches.{IsReached, rank_of}
use Rattle.big_assignment.proofs.search.nearest.Given as goal

pub record IsNearestSoFar (deal : Deal) (search : Search) (n r c i : ℕ) : Type 0 where
  pub row : r ≤ n
  pub reached : IsReached deal search n r
  pub column : c ≤ 32
  pub unreached : rank_of search c ≡ 0
  pub least : (l k : ℕ) → l < i → IsReached deal search n l → k ≤ 32 → rank_of search k ≡ 0
      → gain_of deal r + price_of deal c + offer_of deal l k ≤ gain_of deal l + price_of deal k + offer_of deal r c

abbrev pub invariant-loop-i : goal.invariant-loop-i
invariant-loop-i l = IsNearestSoFar l.deal l.search l.n l.best.0 l.best.1 l.i
