-- For the private functions of this crate.
-- The coalitions without a player, counted by size and weight, and the Shapley value of a voting game by these
-- counts.
--
--   way_at r w                           the count of weight w in a row
--   row_at t size                        the row of a size
--   ways_at t size w                     the count of that size and weight in a table
--   lighter r weight w                   what one more player of that weight brings from a row to weight w
--   smaller t size weight w              the same from the row of the size that is one less
--   HasRows t                            the table has a row for each size below 32
--   IsSmallRow, IsSmallTable             no count is above 2 ^ 32
--   ways weight i j size w               how many coalitions of the first j players without player i have that size and
--                                        weight
--   IsTable weight i j t                 the table of these counts
--   range_total r low high               the counts of the weights of a range, added
--   row_total weight i n size low high   the same of all coalitions of a size without player i
--   share_unit n k                       what a coalition of k players in front gives of the common denominator
--   numerator weight i n low high        what player i gets over it, if it makes the weights of the range winning
use Rattle.std.specs.Prelude.{◌≡◌, ℕ, zero, suc, ◌+◌, ◌-◌, ◌*◌, ◌/◌, ◌^◌, ◌<◌}
use Rattle.std.specs.Prelude.{◌≤◌, ◌&&◌, nat_eq, nat_le, []}
use Rattle.std.specs.Prelude.{length, ℤ, pos, ◌*ℤ◌, slice_index, slice_index_or, if◌then◌else◌}
use Rattle.definitions.specs.Sums.{sum_below}
use Rattle.definitions.specs.Shapley.{factorial}
use Rattle.shapley.specs.Subsets.{orders_with}
use Rattle.shapley.specs.Layers.{common}
use Rattle.voting.specs.declared.counts.Row.{Row}
use Rattle.voting.specs.declared.counts.Table.{Table}

abbrev pub way_at : Row → ℕ → ℕ
way_at r w = slice_index r.ways w

abbrev pub row_at : Table → ℕ → Row
row_at t size = slice_index_or t.rows.items size (record { ways = [] })

abbrev pub ways_at : Table → ℕ → ℕ → ℕ
ways_at t size w = way_at (row_at t size) w

abbrev pub lighter : Row → ℕ → ℕ → ℕ
lighter r weight w = if nat_le weight w then way_at r (w - weight) else 0

abbrev pub smaller : Table → ℕ → ℕ → ℕ → ℕ
smaller t size weight w = if nat_le 1 size then lighter (row_at t (size - 1)) weight w else 0

-- there is a row for each size
abbrev pub HasRows : Table → Type 0
HasRows t = length t.rows.items ≡ 32

-- no count is above 2 ^ 32
abbrev pub IsSmallRow : Row → Type 0
IsSmallRow r = (w : ℕ) → w < 1001 → way_at r w ≤ 2 ^ 32

abbrev pub IsSmallTable : Table → Type 0
IsSmallTable t = (size : ℕ) → size < 32 → IsSmallRow (row_at t size)

-- how many coalitions of the first j players without player i have that size and weight
unfoldable pub ways : (ℕ → ℕ) → ℕ → ℕ → ℕ → ℕ → ℕ
ways weight i zero size w = if nat_eq size 0 && nat_eq w 0 then 1 else 0
ways weight i (suc j) size w =
    if nat_eq j i then ways weight i j size w
    else ways weight i j size w
    + (if nat_le 1 size && nat_le (weight j) w then ways weight i j (size - 1) (w - weight j) else 0)

pub record IsTable (weight : ℕ → ℕ) (i j : ℕ) (t : Table) : Type 0 where
  pub each : (size w : ℕ) → size < 32 → w < 1001 → ways_at t size w ≡ ways weight i j size w

-- the counts of the weights from low to below high, added
abbrev pub range_total : Row → ℕ → ℕ → ℤ
range_total r low high = sum_below high (λ w. if nat_le low w then pos (way_at r w) else pos 0)

abbrev pub row_total : (ℕ → ℕ) → ℕ → ℕ → ℕ → ℕ → ℕ → ℤ
row_total weight i n size low high =
    sum_below high (λ w. if nat_le low w then pos (ways weight i n size w) else pos 0)

-- what a coalition of k players in front gives of the common denominator
unfoldable pub share_unit : ℕ → ℕ → ℕ
share_unit n k = common * orders_with n k / factorial n

-- what player i gets over the common denominator, if it makes the weights from low to below high winning
abbrev pub numerator : (ℕ → ℕ) → ℕ → ℕ → ℕ → ℕ → ℤ
numerator weight i n low high =
    sum_below n (λ k. pos (share_unit n k) *ℤ row_total weight i n k low high)
