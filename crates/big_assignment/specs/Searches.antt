-- For the private functions of this crate.
-- The search for a matching that goes with fair prices: row n has no column yet, and columns are reached from it. Each
-- place that was reached has a rank, from 1, in the order in which they were reached, and a parent, the row that it was
-- reached from.
--
--   rank_of, parent_of   of a search: the rank of a place, 0 if it isn't reached, and the place's parent
--   unreached    how many places are not reached
--   IsReached    row i is reached: it is row n, or its column is
--   IsEarlier    row i was reached before place k
--   IsJoined     place k is tight with its parent, a row that was reached before
--   IsSearch     the places that were reached from row n, in their order
--   IsOpen       a column is to be handed to its parent, and rows give way from parent to parent
--   IsNearest    a reached row and a place that is not reached, of least slack
--   IsImproved   of a pair and the pairs of one more row, the one of least slack
--   IsShifted    what the reached rows gain falls by d, and what the reached places cost rises by d
--   IsPut        one function is the other, except at one place
use Rattle.std.specs.Prelude.{◌≡◌, ◌≢◌, ◌⊎◌, ℕ, ◌+◌, ◌^◌, ◌<◌, ◌≤◌, List}
use Rattle.std.specs.Prelude.{slice_index, sum_by, nat_eq, if◌then◌else◌}
use Rattle.big_assignment.specs.Deals.{IsFair, IsTight, offer_of, gain_of, price_of, mate_of}
use Rattle.big_assignment.specs.declared.deal.Deal.{Deal}
use Rattle.big_assignment.specs.declared.deal.Search.{Search}

abbrev pub rank_of : Search → ℕ → ℕ
rank_of search k = slice_index search.ranks k

abbrev pub parent_of : Search → ℕ → ℕ
parent_of search k = slice_index search.parents k

abbrev pub unreached : List ℕ → ℕ
unreached ranks = sum_by (λ r. if nat_eq r 0 then 1 else 0) ranks

abbrev pub IsReached : Deal → Search → ℕ → ℕ → Type 0
IsReached deal search n i = (i ≡ n) ⊎ ((i < n) × (1 ≤ rank_of search (mate_of deal i)))

abbrev pub IsEarlier : Deal → Search → ℕ → ℕ → ℕ → Type 0
IsEarlier deal search n i k =
    (i ≡ n)
    ⊎ ((i < n) × (1 ≤ rank_of search (mate_of deal i)) × (rank_of search (mate_of deal i) < rank_of search k))

pub record IsJoined (deal : Deal) (search : Search) (n k : ℕ) : Type 0 where
  pub tight : IsTight deal (parent_of search k) k
  pub earlier : IsEarlier deal search n (parent_of search k) k

pub record IsSearch (deal : Deal) (search : Search) (n : ℕ) : Type 0 where
  pub fair : IsFair deal n
  pub gain : gain_of deal n ≤ 2 ^ 40
  pub covers : (k : ℕ) → k ≤ 32 → offer_of deal n k ≤ gain_of deal n + price_of deal k
  pub taken : (k : ℕ) → k ≤ 32 → 1 ≤ rank_of search k → (k < 32) × ((i : ℕ) × (i < n) × (mate_of deal i ≡ k))
  pub joined : (k : ℕ) → k ≤ 32 → 1 ≤ rank_of search k → IsJoined deal search n k
  pub bounded : (k : ℕ) → k ≤ 32 → rank_of search k ≤ search.count
  pub total : search.count + unreached search.ranks ≡ 33

-- column j is to be handed to its parent: every row below n has its column, and rows give way from parent to parent
pub record IsOpen (deal : Deal) (search : Search) (n j : ℕ) : Type 0 where
  pub covers : (i k : ℕ) → i ≤ n → k ≤ 32 → offer_of deal i k ≤ gain_of deal i + price_of deal k
  pub tight : (i : ℕ) → i < n → IsTight deal i (mate_of deal i)
  pub within : (i : ℕ) → i < n → mate_of deal i ≤ 32
  pub apart : (i l : ℕ) → i < n → l < n → mate_of deal i ≡ mate_of deal l → mate_of deal i < 32 → i ≡ l
  pub sold : (k : ℕ) → k < 32 → k ≢ j → (price_of deal k ≡ 0) ⊎ ((i : ℕ) × (i < n) × (mate_of deal i ≡ k))
  pub open_column : (i : ℕ) → i < n → mate_of deal i ≡ j → j < 32 → ⊥
  pub free : price_of deal 32 ≡ 0
  pub column : j ≤ 32
  pub ranked : 1 ≤ rank_of search j
  pub joined : (k : ℕ) → k ≤ 32 → 1 ≤ rank_of search k → rank_of search k ≤ rank_of search j
      → IsJoined deal search n k

-- row r and place c: of the reached rows and the places that are not reached, none has less slack
pub record IsNearest (deal : Deal) (search : Search) (n r c : ℕ) : Type 0 where
  pub row : r ≤ n
  pub reached : IsReached deal search n r
  pub column : c ≤ 32
  pub unreached : rank_of search c ≡ 0
  pub least : (i k : ℕ) → i ≤ n → IsReached deal search n i → k ≤ 32 → rank_of search k ≡ 0
      → gain_of deal r + price_of deal c + offer_of deal i k ≤ gain_of deal i + price_of deal k + offer_of deal r c

-- of the best pair and the pairs of row i with places that are not reached, the pair found has the least slack
pub record IsImproved (deal : Deal) (search : Search) (i : ℕ) (best found : ℕ × ℕ) : Type 0 where
  pub chosen : ((found.0 ≡ best.0) × (found.1 ≡ best.1)) ⊎ (found.0 ≡ i)
  pub column : found.1 ≤ 32
  pub unreached : rank_of search found.1 ≡ 0
  pub no_worse : gain_of deal found.0 + price_of deal found.1 + offer_of deal best.0 best.1
      ≤ gain_of deal best.0 + price_of deal best.1 + offer_of deal found.0 found.1
  pub least : (k : ℕ) → k ≤ 32 → rank_of search k ≡ 0
      → gain_of deal found.0 + price_of deal found.1 + offer_of deal i k
      ≤ gain_of deal i + price_of deal k + offer_of deal found.0 found.1

pub record IsShifted (deal : Deal) (search : Search) (n d : ℕ) (gains prices : List ℕ) : Type 0 where
  pub in_row : (i : ℕ) → i ≤ n → IsReached deal search n i → slice_index gains i + d ≡ gain_of deal i
  pub out_row : (i : ℕ) → i < n → rank_of search (mate_of deal i) ≡ 0 → slice_index gains i ≡ gain_of deal i
  pub in_column : (k : ℕ) → k ≤ 32 → 1 ≤ rank_of search k → slice_index prices k ≡ price_of deal k + d
  pub out_column : (k : ℕ) → k ≤ 32 → rank_of search k ≡ 0 → slice_index prices k ≡ price_of deal k

pub record IsPut (f g : ℕ → ℕ) (k x : ℕ) : Type 0 where
  pub here : g k ≡ x
  pub elsewhere : (l : ℕ) → l ≢ k → g l ≡ f l
