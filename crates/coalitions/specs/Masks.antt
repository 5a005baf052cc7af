-- The masks of coalitions in ascending order.
use Rattle.std.specs.Prelude.{ℕ, ◌-◌, ◌^◌, List, [], Option, Some, None}
use Rattle.std.specs.List.{range_with_len}

-- every coalition of n players, in ascending order of the masks
abbrev pub all_masks : ℕ → List ℕ
all_masks n = range_with_len 0 (2 ^ n)

-- the coalitions of n players from a mask on, in ascending order, and none if there is no mask
abbrev pub masks_from : ℕ → Option ℕ → List ℕ
masks_from n None = []
masks_from n (Some s) = range_with_len s (2 ^ n - s)
