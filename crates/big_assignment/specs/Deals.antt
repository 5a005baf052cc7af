-- For the private functions of this crate.
-- Deals: what rows offer for columns, at prices. Each column has its number as its place among prices and offers. No
-- column has place 32: nothing is offered for it, and it is never sold.
--
--   place          the place of a column, or of none
--   mates          the place of the column that each row has
--   Offers         what row i offers for place k
--   offers         the same, from a table of 33 numbers a row
--   offer_of       what a row of a deal offers for a place
--   gain_of        what a row gains
--   price_of       what a place costs
--   mate_of        the place of the row's column
--   at_prices      the deal with other gains and prices
--   with_columns   the deal with other columns
--   AreOffers      offers are below 2 ^ 40, and nothing is offered for no column
--   AreDealOffers  the offers of a deal are such
--   AreColumns     each row below n has a column, or none
--   IsTight        an offer is the gain of its row and the price of its place
--   IsFair         rows below n have their columns at prices at which no row would rather have another
--   IsCovered      gains and prices cover the offers, and are small
--   IsDealOfAll    the deal of a market, whose buyers have their columns at fair prices
--   Meets          prices over a denominator leave each row content with its column
--   IsBelow        no such prices are lower anywhere
--   IsGain         what each row gains at its column's price
--   IsContentAt    a row would rather have no other column at some prices than its own at others
--   NoneWanted     row i would rather have no other column than its own
--   Holds          i is the row that has column k, or 32 if none has
--   IsOutside      nothing is offered outside of so many rows and columns
--   IsTurned       rows and columns exchanged
use Rattle.std.specs.Prelude.{◌≡◌, ◌≢◌, ◌⊎◌, ℕ, ◌+◌, ◌*◌, ◌^◌, ◌<◌, ◌≤◌, List}
use Rattle.std.specs.Prelude.{length, ℤ, Option, None}
use Rattle.std.specs.Prelude.{slice_index, slice_index_or, unwrap_or}
use Rattle.matrices.specs.Rows.{entries_of}
use Rattle.big_assignment.specs.Markets.{everybody, offered}
use Rattle.big_assignment.specs.declared.deal.Deal.{Deal}

-- the place of a column among prices and offers: no column is behind all others
abbrev pub place : Option ℕ → ℕ
place column = unwrap_or column 32

abbrev pub mates : List (Option ℕ) → ℕ → ℕ
mates columns i = place (slice_index_or columns i None)

abbrev pub Offers : Type 0
Offers = ℕ → ℕ → ℕ

-- what row i offers for place k: the table has 33 numbers a row
abbrev pub offers : List ℕ → Offers
offers table i k = slice_index table (33 * i + k)

abbrev pub offer_of : Deal → Offers
offer_of deal i k = offers deal.table i k

abbrev pub gain_of : Deal → ℕ → ℕ
gain_of deal i = slice_index deal.gains i

abbrev pub price_of : Deal → ℕ → ℕ
price_of deal k = slice_index deal.prices k

abbrev pub mate_of : Deal → ℕ → ℕ
mate_of deal i = mates deal.columns i

abbrev pub at_prices : Deal → List ℕ → List ℕ → Deal
at_prices deal gains prices = record deal { gains = gains; prices = prices }

abbrev pub with_columns : Deal → List (Option ℕ) → Deal
with_columns deal columns = record deal { columns = columns }

pub record AreOffers (m : Offers) : Type 0 where
  pub small : (i k : ℕ) → i < 32 → k ≤ 32 → m i k < 2 ^ 40
  pub nothing : (i : ℕ) → i < 32 → m i 32 ≡ 0

abbrev pub AreDealOffers : Deal → Type 0
AreDealOffers deal = AreOffers (offers deal.table)

abbrev pub AreColumns : Deal → ℕ → Type 0
AreColumns deal n = (i : ℕ) → i < n → mate_of deal i ≤ 32

-- row i and place k are tight
abbrev pub IsTight : Deal → ℕ → ℕ → Type 0
IsTight deal i k = offer_of deal i k ≡ gain_of deal i + price_of deal k

pub record IsFair (deal : Deal) (n : ℕ) : Type 0 where
  pub covers : (i k : ℕ) → i < n → k ≤ 32 → offer_of deal i k ≤ gain_of deal i + price_of deal k
  pub tight : (i : ℕ) → i < n → IsTight deal i (mate_of deal i)
  pub within : (i : ℕ) → i < n → mate_of deal i ≤ 32
  pub apart : (i l : ℕ) → i < n → l < n → mate_of deal i ≡ mate_of deal l → mate_of deal i < 32 → i ≡ l
  pub sold : (k : ℕ) → k < 32 → (price_of deal k ≡ 0) ⊎ ((i : ℕ) × (i < n) × (mate_of deal i ≡ k))
  pub free : price_of deal 32 ≡ 0

-- what a slack is taken of: each row up to n and each place are covered, and all numbers are small
pub record IsCovered (deal : Deal) (n : ℕ) : Type 0 where
  pub covers : (i k : ℕ) → i ≤ n → k ≤ 32 → offer_of deal i k ≤ gain_of deal i + price_of deal k
  pub gains : (i : ℕ) → i ≤ n → gain_of deal i ≤ 2 ^ 40
  pub prices : (k : ℕ) → k ≤ 32 → price_of deal k ≤ 2 ^ 40

-- the table has what all players offer each other, and the buyers have their columns at fair prices
pub record IsDealOfAll (rows : List (List ℤ)) (deal : Deal) : Type 0 where
  pub table : (i j : ℕ) → i < 32 → j ≤ 32
      → offers deal.table i j ≡ offered (entries_of rows) (length rows) (everybody rows) i j
  pub offers_small : AreDealOffers deal
  pub fair : IsFair deal (length rows)

-- ---- other prices for the same columns

-- the prices q, over d, leave each row content with its column
abbrev pub Meets : Deal → ℕ → ℕ → (ℕ → ℕ) → Type 0
Meets deal n d q =
    (i k : ℕ) → i < n → k ≤ 32
    → d * offer_of deal i k + q (mate_of deal i) ≤ d * offer_of deal i (mate_of deal i) + q k

abbrev pub IsBelow : Deal → ℕ → (ℕ → ℕ) → Type 0
IsBelow deal n p = (d : ℕ) (q : ℕ → ℕ) → Meets deal n d q → (k : ℕ) → k ≤ 32 → d * p k ≤ q k

pub record IsGain (deal : Deal) (n : ℕ) (p v : ℕ → ℕ) : Type 0 where
  pub adds : (i : ℕ) → i < n → v i + p (mate_of deal i) ≡ offer_of deal i (mate_of deal i)

-- row i would rather have no other column at the prices q than its own at the prices p
abbrev pub IsContentAt : Deal → (ℕ → ℕ) → (ℕ → ℕ) → ℕ → Type 0
IsContentAt deal p q i =
    (k : ℕ) → k ≤ 32 → offer_of deal i k + p (mate_of deal i) ≤ offer_of deal i (mate_of deal i) + q k

abbrev pub NoneWanted : Deal → (ℕ → ℕ) → ℕ → Type 0
NoneWanted deal p i = IsContentAt deal p p i

-- ---- rows and columns exchanged

abbrev pub Holds : Deal → ℕ → ℕ → ℕ → Type 0
Holds deal rows k i =
    ((i < rows) × (mate_of deal i ≡ k)) ⊎ ((i ≡ 32) × ((l : ℕ) → l < rows → mate_of deal l ≢ k))

abbrev pub IsOutside : Offers → ℕ → ℕ → Type 0
IsOutside m rows columns = (i k : ℕ) → i < 32 → k ≤ 32 → (rows ≤ i) ⊎ (columns ≤ k) → m i k ≡ 0

-- the other deal has rows in place of columns
pub record IsTurned (deal : Deal) (rows columns : ℕ) (turned : Deal) : Type 0 where
  pub offers : (k i : ℕ) → k < 32 → i < 32 → offer_of turned k i ≡ offer_of deal i k
  pub none : (k : ℕ) → k < 32 → offer_of turned k 32 ≡ 0
  pub gains : (k : ℕ) → k ≤ 32 → gain_of turned k ≡ price_of deal k
  pub prices : (i : ℕ) → i < rows → price_of turned i ≡ gain_of deal i
  pub beside : (i : ℕ) → rows ≤ i → price_of turned i ≡ 0
  pub holds : (k : ℕ) → k < columns → Holds deal rows k (mate_of turned k)
